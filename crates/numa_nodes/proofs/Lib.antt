pub mod AssignLaws
mod Examples
pub mod ListedLaws
pub mod MemoryLaws
pub mod NodedLaws
pub mod RecordLaws
pub mod TurnLaws
