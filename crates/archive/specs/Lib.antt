pub mod Parts
pub mod Writer
pub mod Reader
pub mod Work
