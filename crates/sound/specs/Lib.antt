pub mod Sound
pub mod Surveyed
pub mod Work
