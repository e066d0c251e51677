pub mod BadLaws
pub mod BucketLaws
pub mod LineLaws
pub mod ListLaws
pub mod OrderLaws
mod Examples
