pub mod Limits
pub mod Rest
