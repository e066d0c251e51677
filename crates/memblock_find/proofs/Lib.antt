pub mod SlotLaws
pub mod DownLaws
pub mod PlaceLaws
pub mod NodeLaws
pub mod BottomLaws
pub mod UpLaws
pub mod OneLaws
mod Examples
