-- `Interrupting`, `Halting`, `Basing`, `Lining`, `Timing` and `Levelling` prove the statements of specs/.
pub mod Interrupting
pub mod Halting
pub mod Basing
pub mod Storing
pub mod Lining
pub mod Timing
pub mod Levelling
