pub mod Report
pub mod ReportList
pub mod TableHeads
pub mod Summary
