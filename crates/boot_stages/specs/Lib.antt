pub mod Boots
pub mod Parts
