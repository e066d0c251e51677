pub mod ScriptLaws
pub mod StepLaws
pub mod GrammarLaws
pub mod SpellingLaws
pub mod ScriptSpellingLaws
mod Examples
