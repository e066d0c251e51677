pub mod DoingLaws
pub mod RequestLaws
pub mod QuietLaws
mod Examples
