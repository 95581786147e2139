pub mod Listings
pub mod Marks
pub mod Reads
pub mod Tags
pub mod Writes
