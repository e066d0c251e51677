mod Examples
pub mod KeptLaws
pub mod GoingLaws
pub mod PreparedLaws
pub mod PlaceLaws
pub mod MoreLaws
pub mod ReservedLaws
pub mod WholeLaws
pub mod ChangeLaws
pub mod ClaimLaws
pub mod MemblockLaws
pub mod MemoryLaws
pub mod RequestLaws
mod TouchExamples
