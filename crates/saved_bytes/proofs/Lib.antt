-- `LittleEndian` has the laws of halfwords and words in bytes, `Filling` those of the loops over them, `Reading` that they are read
-- back, `Putting` the laws of parts put over a buffer, `Summing` those of the loops over bytes, and `Comparing` those of the loops
-- that compare.
pub mod LittleEndian
pub mod Filling
pub mod Reading
pub mod Putting
pub mod Summing
pub mod Comparing
