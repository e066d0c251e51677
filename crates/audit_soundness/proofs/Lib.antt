pub mod FrameLaws
pub mod BlockLaws
pub mod ValueLaws
pub mod OrderLaws
pub mod SavedLaws
pub mod BootedLaws
mod Examples
