pub mod Accepted
pub mod Steps
pub mod Called
pub mod Trapping
pub mod Extended
