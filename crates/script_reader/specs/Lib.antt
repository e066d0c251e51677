pub mod Numbers
pub mod Forms
pub mod Lines
pub mod Script
pub mod Grammar
pub mod Spelling
pub mod ScriptSpelling
