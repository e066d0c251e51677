pub mod Buddies
pub mod Frames
pub mod BlockList
pub mod PickedBlock
pub mod Rows
pub mod Sets
