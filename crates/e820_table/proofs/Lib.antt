mod EntryExamples
pub mod EntryLaws
pub mod ZeroLaws
mod InitrdExamples
mod MadeExamples
pub mod MadeLaws
