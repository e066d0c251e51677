pub mod ChainLaws
mod Examples
