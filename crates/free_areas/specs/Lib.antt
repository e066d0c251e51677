pub mod Areas
