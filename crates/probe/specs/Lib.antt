pub mod Input
pub mod Limits
