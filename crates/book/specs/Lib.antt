pub mod Annexes
pub mod Answers
pub mod Tables
