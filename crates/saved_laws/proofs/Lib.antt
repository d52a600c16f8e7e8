mod Bytes
pub mod Resetting
pub mod Salvaged
pub mod Written
pub mod Rising
pub mod Keeping
