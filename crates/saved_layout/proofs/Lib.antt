-- `Positions` has where the bodies of both forms stand, `Files` that what stands in a file is what it was written from, and the
-- reverse, `Written` what the functions leave, and `NoGaps` that bodies follow one another.
pub mod Positions
pub mod Files
pub mod Laid
pub mod Written
pub mod NoGaps
