mod Boundary
mod Levels
pub mod Misused
