pub mod BootLaws
pub mod ExactLaws
pub mod FetchLaws
pub mod LentLaws
pub mod NameLaws
pub mod RunLaws
pub mod ValueLaws
