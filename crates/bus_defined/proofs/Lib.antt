pub mod Addresses
pub mod Masks
