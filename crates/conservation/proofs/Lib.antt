pub mod ClaimedLaws
pub mod CountLaws
mod Examples
pub mod FreeLaws
pub mod HeadlineLaws
pub mod PagedLaws
pub mod MapLaws
pub mod ToldLaws
