pub mod Probe
pub mod Lent
pub mod Kept
