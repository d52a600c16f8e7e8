pub mod Interrupt
pub mod Accepted
pub mod Rows
