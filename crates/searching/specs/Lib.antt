-- The executable search, check and sittings, in the order in which they are read.
pub mod Trying
pub mod Solving
pub mod Checking
pub mod Answering
pub mod Theorems
pub mod Table
