pub mod EndLaws
mod Examples
pub mod FewLaws
pub mod ItemLaws
pub mod MapItemLaws
pub mod MemoryLaws
pub mod MirrorLaws
