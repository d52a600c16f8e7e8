-- `Moving` has what the two directions leave, `Verdicts` the cases of the call, `Returning` that a moved file is moved back, and 16.
pub mod Moving
pub mod Verdicts
pub mod Returning
