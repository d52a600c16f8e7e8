pub mod Undefined
pub mod Execution
pub mod Record
pub mod Replays
pub mod inner
