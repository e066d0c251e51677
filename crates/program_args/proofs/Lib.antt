pub mod DefaultLaws
pub mod EntryLaws
mod Examples
pub mod GrammarLaws
pub mod KnownLaws
pub mod MatchedLaws
pub mod MirrorLaws
pub mod ProgramLaws
pub mod SpellingLaws
