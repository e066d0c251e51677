pub mod QuietLaws
pub mod MapLaws
pub mod GroupLaws
mod Examples
mod StretchLaws
