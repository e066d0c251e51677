pub mod AmendLaws
pub mod CountLaws
pub mod EndLaws
mod Examples
pub mod HoldLaws
pub mod JoinLaws
pub mod SlotLaws
