pub mod Naming
pub mod Numbering
pub mod Scanning
pub mod Wording
