pub mod Digits
pub mod Largest
