pub mod Ends
pub mod Records
