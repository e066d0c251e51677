pub mod PrintableBoots
pub mod Saved
