pub mod Layout
pub mod File
pub mod Gaps
pub mod inner
