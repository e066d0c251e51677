mod AddedLaws
mod Examples
pub mod BytesLaws
pub mod ExitLaws
pub mod HandoverLaws
pub mod ItemsLaws
pub mod MapLaws
pub mod MemoryLaws
pub mod PlaceLaws
pub mod StagesLaws
