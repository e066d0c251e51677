mod Examples
pub mod RecordLaws
pub mod ClaimLaws
pub mod StandLaws
pub mod WholeLaws
pub mod TakeLaws
pub mod CheckLaws
