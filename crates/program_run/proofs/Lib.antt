pub mod BootedLaws
mod FirstRun
pub mod GivenLaws
pub mod HeadlineLaws
mod LineExamples
pub mod OutcomeExamples
pub mod RunLaws
