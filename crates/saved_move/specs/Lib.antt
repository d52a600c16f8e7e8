pub mod Move
pub mod Back
