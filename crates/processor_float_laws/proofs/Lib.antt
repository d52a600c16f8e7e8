mod Reading
mod Grid
mod Signs
mod Rounds
mod Settled
mod Values
mod Vanishing
mod Words
mod Distance
pub mod Answering
pub mod Comparing
pub mod Converting
pub mod Rearranging
pub mod Flagged
