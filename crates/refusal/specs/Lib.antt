pub mod Number
pub mod Apart
