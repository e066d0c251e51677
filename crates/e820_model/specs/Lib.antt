pub mod Claims
pub mod Greater
pub mod Map
pub mod Usable
