pub mod Keeping
pub mod Naming
pub mod Sizes
pub mod Whole
pub mod Outcomes
