pub mod Fields
pub mod Forms
pub mod Meanings
pub mod Numbers
pub mod Samples
pub mod Words
