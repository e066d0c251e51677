pub mod Present
pub mod Roots
