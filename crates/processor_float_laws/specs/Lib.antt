pub mod Exact
pub mod Rounded
pub mod Nearest
pub mod Answer
pub mod Compared
pub mod Converted
pub mod Rearranged
pub mod Flagged
