pub mod Buckets
pub mod Lists
pub mod MadeLists
pub mod SlitView
pub mod Near
pub mod Order
pub mod Table
pub mod Uses
