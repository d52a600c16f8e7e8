pub mod Reset
pub mod Salvaged
pub mod Rising
pub mod Keeps
