pub mod Causes
pub mod Ends
pub mod Fetches
pub mod Line
pub mod Program
pub mod Status
