pub mod Limits
pub mod Stored
pub mod Refusals
pub mod Entries
