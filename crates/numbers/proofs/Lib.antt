pub mod Getting
pub mod Pieces
pub mod Putting
pub mod Outcomes
