pub mod Packing
pub mod Whole
pub mod Rules
pub mod Wording
pub mod Bits
pub mod Outcomes
pub mod Numbers
