-- `Exactly` proves the statements of specs/Accepted.
mod Levels
pub mod Exactly
