pub mod Operand
pub mod Arithmetic
pub mod Comparison
pub mod Conversion
pub mod Flag
pub mod Nintendo
