mod Records
pub mod Ended
pub mod Left
pub mod Counted
