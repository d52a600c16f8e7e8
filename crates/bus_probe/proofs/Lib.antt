-- `IsStore` and `ProbeKept` prove the statements of specs/Kept.
pub mod Ranges
mod Verdicts
pub mod IsStore
pub mod ProbeKept
