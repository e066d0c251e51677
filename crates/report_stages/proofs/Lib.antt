mod Examples
pub mod BatchLaws
pub mod BlockLaws
pub mod GreatRowLaws
pub mod RowLaws
pub mod ZoneLaws
