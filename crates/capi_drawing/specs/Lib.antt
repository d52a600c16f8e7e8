pub mod Pictures
pub mod PixelBytes
