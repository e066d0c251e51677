pub mod DomainLaws
mod Examples
pub mod FilledLaws
pub mod GivenLaws
pub mod InListLaws
pub mod JudgedLaws
pub mod KeptLaws
pub mod MeaningLaws
pub mod MemoryLaws
pub mod NamingLaws
pub mod NodesLaws
mod NumberExamples
pub mod OverlapLaws
pub mod RestLaws
