mod ClaimExamples
pub mod ClaimLaws
pub mod GreaterLaws
mod MapExamples
mod NumberExamples
mod UsableExamples
pub mod UsableLaws
