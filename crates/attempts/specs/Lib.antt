pub mod Attempts
pub mod Lists
