pub mod Brightness
pub mod ColumnTable
pub mod Calls
pub mod Shown
pub mod inner
