pub mod Replay
pub mod Calls
