-- `Choosing`: what a step is that accepts an interrupt, and one that does not.
pub mod Choosing
