mod Examples
pub mod ListLaws
pub mod StandLaws
pub mod SummaryLaws
