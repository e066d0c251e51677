pub mod Maps
pub mod Stretches
