pub mod Domains
pub mod NodeAt
pub mod SratNodesView
pub mod Kept
pub mod Steps
