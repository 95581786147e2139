pub mod Cells
pub mod Loops
