pub mod Boots
pub mod Call
pub mod Copies
pub mod Fetches
pub mod Lent
pub mod Profiles
pub mod Values
