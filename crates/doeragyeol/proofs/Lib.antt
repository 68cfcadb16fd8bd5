pub mod Telling
pub mod Answering
pub mod Words
pub mod Places
pub mod Outcomes
pub mod Numbers
pub mod NoDepth
