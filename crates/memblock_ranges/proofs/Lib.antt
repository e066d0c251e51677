mod Examples
pub mod ByteEdits
pub mod CountLaws
pub mod EditLaws
pub mod MoveLaws
pub mod NewLaws
pub mod PairLaws
pub mod PieceLaws
pub mod SpellLaws
pub mod StepLaws
pub mod TableSpelling
pub mod TrimLaws
pub mod LentLaws
