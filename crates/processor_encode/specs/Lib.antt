pub mod Format
pub mod Fields
pub mod Range
pub mod Place
pub mod Encode
pub mod Unused
