pub mod Entries
pub mod Extension
pub mod Initrd
pub mod Made
pub mod ZeroPage
