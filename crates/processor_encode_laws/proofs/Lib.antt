mod Extending
mod Fitting
mod Places
pub mod Cleared
mod Encoding
mod Rows
mod Instructions
mod Formats
mod Placing
pub mod RoundTrip
pub mod RangeExactly
pub mod SignedRange
pub mod SecondIgnored
