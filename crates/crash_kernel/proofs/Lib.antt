pub mod TotalLaws
pub mod PlaceLaws
pub mod ReservedLaws
pub mod QuietLaws
pub mod ToldLaws
mod Examples
