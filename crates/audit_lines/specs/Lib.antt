pub mod Blocks
pub mod Fields
pub mod Forms
pub mod Lines
pub mod Reports
