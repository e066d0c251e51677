mod Examples
pub mod ByteLists
pub mod Joining
pub mod Lookup
pub mod Search
pub mod Widening
pub mod Writes
