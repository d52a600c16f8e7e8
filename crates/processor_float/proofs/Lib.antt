pub mod Tested
mod Settling
pub mod Reversal
pub mod Opposite
pub mod Closest
pub mod Sizing
mod Fraction
mod Converting
mod Cast
