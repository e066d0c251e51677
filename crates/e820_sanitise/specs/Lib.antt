pub mod Cuts
pub mod Room
pub mod Stop
