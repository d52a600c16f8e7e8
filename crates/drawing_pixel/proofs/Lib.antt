-- `Pairs` has the laws of pairs of bits in a halfword, `Masks` those of a pixel painted without a branch, `Places` where a
-- column stands in a character row, `Spans` and `Blocks` the laws of rows and columns of a strip, `Small` that pixels stay
-- below 4, `Windows` what a world or an object makes of a pixel in its window or square and outside of it, `Heights` the
-- rows of a world by its cases, `Lists` what stands in a list that is given by its numbers, and `Strips` which addresses a
-- strip has.
pub mod Pairs
pub mod Masks
pub mod Places
pub mod Spans
pub mod Blocks
pub mod Small
pub mod Windows
mod Heights
pub mod Lists
pub mod Strips
pub mod RowBits
pub mod Fields
pub mod HeightFormulas
pub mod WindowFormulas
pub mod SourceFormulas
pub mod CellFormulas
pub mod ObjectFormulas
pub mod Painting
