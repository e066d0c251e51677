mod Examples
pub mod LineLaws
pub mod PutLaws
pub mod RecordLaws
