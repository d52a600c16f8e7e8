-- `Answerable`, `Lengths`, `CallDrawn`, `Images` and `ListedAddresses` prove the statements of specs/Demand3 and specs/Drawn;
-- `ShortWorlds` those of specs/ShortWorlds.
pub mod Answerable
pub mod CallDrawn
pub mod Images
pub mod ListedAddresses
pub mod ShortWorlds
mod BackgroundSame
mod Below
mod CoversDrawn
mod DrawnCovers
mod Each
pub mod Groups
mod Halfwords
mod ListedBytes
mod ObjectsSame
pub mod PixelSame
mod Reached
mod Registers
pub mod StripBytes
mod StripPixel
pub mod PixelBytes
pub mod Lengths
pub mod Verdicts
