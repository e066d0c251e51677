mod Examples
pub mod OrderLaws
pub mod AreaLaws
pub mod LeastLaws
