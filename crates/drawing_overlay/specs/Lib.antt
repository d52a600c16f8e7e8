pub mod Ranges
pub mod Undisturbed
