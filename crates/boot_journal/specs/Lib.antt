pub mod JournalView
pub mod Bytes
pub mod Mirrors
pub mod RunList
