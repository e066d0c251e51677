pub mod SplitLaws
pub mod NumberLaws
pub mod ReportLaws
pub mod FormLaws
pub mod ToldLaws
pub mod ReadLaws
pub mod LineReadLaws
pub mod ReportReadLaws
pub mod PrintedLaws
mod Examples
