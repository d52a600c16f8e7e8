pub mod Record
pub mod Timer
pub mod Ports
pub mod Period
pub mod Lines
pub mod Accepted
pub mod Rows
