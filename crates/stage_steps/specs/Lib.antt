pub mod Causes
pub mod Steps
pub mod Nodes
pub mod Requests
pub mod KeepsMemory
