pub mod DescriptorLaws
mod Examples
