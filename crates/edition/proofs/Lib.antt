pub mod Within
pub mod Only
pub mod Numbered
pub mod Outcomes
