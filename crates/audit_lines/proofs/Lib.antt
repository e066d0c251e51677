pub mod FieldLaws
pub mod SplitLaws
pub mod ReportLaws
mod Examples
