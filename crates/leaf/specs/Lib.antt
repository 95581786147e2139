pub mod Bytes
pub mod Outputs
pub mod AccessionNumbers
pub mod ShelfMarks
pub mod Marks
pub mod Letters
