pub mod Counts
pub mod Known
pub mod MemFiles
pub mod MemSink
pub mod Counters
pub mod Puts
pub mod Calls
