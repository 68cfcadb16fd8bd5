pub mod Known
pub mod Row
pub mod Survey
pub mod Work
