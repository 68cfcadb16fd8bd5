pub mod Change
pub mod Work
