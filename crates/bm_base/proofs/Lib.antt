pub mod AnswerLaws
pub mod EachLaws
mod Examples
pub mod SizeLaws
pub mod SpellingLaws
pub mod TextLaws
