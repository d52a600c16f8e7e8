pub mod Interrupted
pub mod Step
