pub mod Rules
pub mod Copying
pub mod Clashing
pub mod Fronts
pub mod Heads
pub mod Instances
pub mod Tries
