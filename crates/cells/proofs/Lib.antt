pub mod Sameness
pub mod Read
pub mod Steps
pub mod Front
pub mod Contents
