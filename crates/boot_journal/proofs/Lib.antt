pub mod ByteLaws
mod Examples
pub mod MirrorLaws
pub mod OwnerLaws
mod RunListLaws
