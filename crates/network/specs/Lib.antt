pub mod Network
pub mod Records
