pub mod Forward
pub mod Walk
pub mod Answers
pub mod Work
