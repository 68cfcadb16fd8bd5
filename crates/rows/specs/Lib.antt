pub mod Count
pub mod First
pub mod Lists
pub mod Records
pub mod Work
