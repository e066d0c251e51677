pub mod Frames
pub mod HeadRecords
