pub mod Crash
pub mod Kept
pub mod MapOptions
pub mod Options
pub mod Reading
pub mod Spelling
