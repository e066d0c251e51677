pub mod Descriptors
pub mod Map
