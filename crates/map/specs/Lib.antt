pub mod Map
pub mod Work
