pub mod Bias
mod Finite
pub mod Casts
pub mod Overflow
mod Magnitude
mod Table
pub mod Bits
pub mod Places
pub mod Digit
pub mod Reading
pub mod Biased
pub mod Signed
pub mod Product64
pub mod Multiplied
pub mod Truncation
pub mod Division
pub mod Divided
pub mod Floor
pub mod Shifted
pub mod Order
pub mod Compared
pub mod Complement
pub mod Entering
