-- The proofs, each file after those that it cites.
pub mod Scopes
pub mod Copies
pub mod Attempts
pub mod Searched
pub mod Checked
pub mod Theorems
pub mod Answered
pub mod Sittings
pub mod Enough
pub mod EverySitting
pub mod Computed
pub mod Tabled
pub mod Turns
