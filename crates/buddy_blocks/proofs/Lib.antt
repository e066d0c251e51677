pub mod PickLaws
pub mod BuddyLaws
mod Examples
pub mod SetLaws
pub mod GoodLaws
pub mod ListLaws
pub mod RunLaws
pub mod LookLaws
pub mod RowLaws
pub mod LongLaws
pub mod CountLaws
pub mod BlockLaws
