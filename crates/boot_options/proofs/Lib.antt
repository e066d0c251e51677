pub mod CrashBounds
mod CrashExamples
pub mod CrashLaws
pub mod CrashSpellingLaws
mod Examples
pub mod FaultLaws
pub mod LineBounds
pub mod MapOptionBounds
mod NumberExamples
pub mod ReadingLaws
pub mod SaidLaws
pub mod SaidSpelledLaws
pub mod SpelledCrashLaws
pub mod SpelledLaws
mod SpellingExamples
pub mod SpellingLaws
pub mod UserMapLaws
