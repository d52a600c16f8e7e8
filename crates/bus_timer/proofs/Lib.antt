-- `Periods`, `LinesLeft` and `Accepting` prove the statements of specs/.
pub mod Mask
mod Digits
pub mod Periods
pub mod LinesLeft
pub mod Accepting
