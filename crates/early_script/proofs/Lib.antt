pub mod PowerLaws
pub mod OwnedLaws
pub mod IdsLaws
pub mod WholeLaws
pub mod RunLaws
pub mod DeedLaws
pub mod HoldLaws
pub mod StageLaws
pub mod OutLaws
pub mod SectionLaws
pub mod QuietLaws
mod Examples
