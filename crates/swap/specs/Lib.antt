pub mod Swap
pub mod Entry
pub mod Work
