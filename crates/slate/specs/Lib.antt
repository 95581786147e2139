pub mod RefusalTexts
pub mod Refusals
pub mod Slates
