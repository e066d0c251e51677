pub mod HeldFilesLaws
pub mod StreamLaws
pub mod PutsLaws
pub mod CallsLaws
mod Examples
