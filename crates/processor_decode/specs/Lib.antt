pub mod Format
pub mod SubOpcode
pub mod Opcode
