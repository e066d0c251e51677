pub mod SameLaws
pub mod LabelLaws
pub mod ItemLaws
pub mod SearchLaws
pub mod TableLaws
mod ItemExamples
mod TableExamples
mod SearchExamples
