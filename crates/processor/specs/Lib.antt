pub mod Record
pub mod Lines
pub mod Acceptance
pub mod Run
pub mod Calls
pub mod inner
