pub mod CutLaws
pub mod FramesLaws
pub mod SettleLaws
mod Examples
mod FramesExamples
