pub mod BootLaws
mod Examples
pub mod MemoryLaws
pub mod MirrorLaws
pub mod NodedLaws
pub mod ReachLaws
pub mod StageLaws
mod RamLaws
pub mod CarriedLaws
