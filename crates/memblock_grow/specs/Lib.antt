pub mod MemblockView
pub mod Invariant
pub mod Continues
pub mod Prepared
pub mod Places
pub mod NewRecords
pub mod Touch
