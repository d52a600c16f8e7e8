pub mod Fits
pub mod Kinds
pub mod Words
pub mod inner
