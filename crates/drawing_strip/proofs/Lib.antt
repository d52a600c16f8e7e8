-- `Worlds` has what a world makes of a pixel by its flags and the worlds one after the other, `Stores` the columns of a strip
-- stored one after the other, `Parts` an image as a part of VRAM, `Drawn` that both images stored make the strip drawn,
-- and `Frames` strips one after the other.
pub mod Worlds
pub mod Stores
pub mod Parts
pub mod Drawn
pub mod Frames
