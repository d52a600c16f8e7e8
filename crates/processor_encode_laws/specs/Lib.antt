pub mod RoundTrip
pub mod Clearing
pub mod Signed
