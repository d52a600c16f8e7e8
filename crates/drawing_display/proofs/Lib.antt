-- `Filling` has how the buffer is filled, `Table` the rules of the column table, `Loading` what loading leaves, and `Effects` the
-- theorems about both calls.
pub mod Filling
pub mod Table
pub mod Loading
pub mod Effects
