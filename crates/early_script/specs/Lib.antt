pub mod LiveView
pub mod Overlaps
pub mod Effects
pub mod FromMemblock
pub mod Lines
