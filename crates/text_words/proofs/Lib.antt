pub mod PartsLaws
pub mod SpellingLaws
pub mod WordsLaws
mod Examples
