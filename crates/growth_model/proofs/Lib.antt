pub mod EndLaws
pub mod CutLaws
pub mod SeatLaws
pub mod FoundLaws
pub mod PlacedLaws
pub mod PlacedReservedLaws
pub mod PlacedMemoryLaws
pub mod LimitLaws
pub mod RoomLaws
pub mod IdleLaws
pub mod FirstLaws
pub mod SoundLaws
mod GrowthExamples
mod SoundExamples
mod RoomExamples
pub mod BytesLaws
pub mod FollowLaws
pub mod ToldLaws
pub mod StandLaws
pub mod FillLaws
mod BytesExamples
mod CarriedExamples
pub mod CarriedLaws
pub mod MemoryItemLaws
pub mod QuietLaws
