pub mod Interrupts
pub mod Instructions
pub mod Lines
pub mod Timer
pub mod Level
