pub mod Covers
pub mod PixelBytes
pub mod Drawn
pub mod Demand3
pub mod ShortWorlds
pub mod Groups
pub mod inner
