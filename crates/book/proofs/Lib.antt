pub mod Deciding
pub mod Listed
pub mod Lookups
pub mod Once
pub mod Parts
pub mod Rows
pub mod Sides
