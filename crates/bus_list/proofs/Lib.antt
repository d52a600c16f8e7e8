mod Sizes
mod InOrder
mod Registers
mod Tested
pub mod Singles
