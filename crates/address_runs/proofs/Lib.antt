mod ExampleLaws
mod EditExamples
pub mod EditLaws
pub mod OverlayLaws
pub mod RunsLaws
pub mod SweepLaws
