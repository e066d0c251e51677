pub mod Change
pub mod Growth
pub mod Request
pub mod Ends
pub mod Tables
pub mod Room
pub mod Bytes
pub mod Requests
