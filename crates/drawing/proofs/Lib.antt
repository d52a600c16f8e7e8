-- `Verdicts` has what the drawing calls answer and leave by each test, `Widths` what accepted registers are, and `Mirror` the
-- address of a character in the bus's character mirror.
pub mod Verdicts
pub mod Widths
pub mod Mirror
