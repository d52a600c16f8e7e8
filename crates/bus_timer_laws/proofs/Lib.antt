pub mod Readings
pub mod Writings
pub mod Elsewhere
pub mod LinesKept
