pub mod Choose
pub mod Bit
pub mod Extend
pub mod LittleEndian
pub mod Integers
pub mod Floors
pub mod Width
