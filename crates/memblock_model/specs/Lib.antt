pub mod Labels
pub mod Same
pub mod Items
pub mod Tables
pub mod Search
