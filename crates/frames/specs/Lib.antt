pub mod Modes
pub mod Goals
pub mod Tries
pub mod Levels
pub mod Points
