-- `Powers` has what the machine's shifts by a background's size are, `Inside` what the tests against that size decide,
-- `Sources` how a source pixel comes from its cell and character row, `Inks` what a value takes from the shades that stand
-- in one number, `Modes` where the source lies by BGM, and `Clipping` which columns and rows of the image a window has.
pub mod Powers
pub mod Inside
pub mod Sources
pub mod Inks
pub mod Modes
pub mod Clipping
