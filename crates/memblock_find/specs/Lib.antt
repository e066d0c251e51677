pub mod Unclaimed
pub mod Places
pub mod Walk
