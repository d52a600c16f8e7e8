pub mod Operation
pub mod Transfer
pub mod Result
pub mod Floating
pub mod Execute
