pub mod LabelLaws
pub mod PresentLaws
pub mod LowestLaws
pub mod AscendLaws
pub mod FirstsLaws
pub mod NodedLaws
pub mod QuietLaws
pub mod RootLaws
mod Examples
