-- `Back` has the records and bodies of a machine, both ways; `Accepting` what 1 to 5 say of them; `Verdicts` the cases of the calls; `Made`,
-- `Moves` and `Sixteen` the theorems.
pub mod Back
pub mod Accepting
pub mod Verdicts
pub mod Holding
pub mod Made
pub mod Moves
pub mod Sixteen
