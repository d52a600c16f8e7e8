-- `Undisturbed` and `Ranges` prove the statements of specs/.
pub mod Undisturbed
pub mod Ranges
