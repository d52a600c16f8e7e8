pub mod Defined
pub mod Addresses
pub mod Worked
