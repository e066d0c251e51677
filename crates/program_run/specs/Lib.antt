pub mod Bootmem
pub mod Headline
pub mod Line
pub mod Outcome
pub mod Stops
