pub mod BookLaws
pub mod KeptLaws
pub mod ReadingLaws
pub mod SpellingLaws
mod Examples
