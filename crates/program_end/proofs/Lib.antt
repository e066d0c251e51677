pub mod EndLaws
mod Examples
