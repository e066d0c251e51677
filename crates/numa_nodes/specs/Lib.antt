pub mod Assignment
pub mod Steps
