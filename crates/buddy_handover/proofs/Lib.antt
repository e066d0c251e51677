mod Examples
pub mod NodeLaws
pub mod PutLaws
pub mod TakeLaws
pub mod HandoverLaws
