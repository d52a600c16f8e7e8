-- `Squares` has an object's square clipped to the image and to a strip, `Groups` the objects of a group one after the other.
pub mod Squares
pub mod Groups
