pub mod Faults
pub mod Lengths
pub mod Messages
pub mod Numbers
pub mod Pieces
