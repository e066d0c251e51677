pub mod Encoding
pub mod Tables
pub mod Steps
pub mod RecordBytes
