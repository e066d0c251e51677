pub mod LineLaws
pub mod ZoneLaws
pub mod SweepLaws
pub mod FrameLaws
pub mod OrderLaws
pub mod ConservedLaws
pub mod WalkLaws
pub mod HeadlineLaws
pub mod RunLaws
mod Examples
