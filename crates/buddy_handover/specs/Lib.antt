pub mod BuddyView
pub mod Handover
