-- `Keeping` has which bodies are kept, `Replacing` what is put into the buffer, `Listing` the list of kinds, `Differing` the comparison of the
-- contents, `Salvaging` the cases of the call.
pub mod Keeping
pub mod Replacing
pub mod Listing
pub mod Differing
pub mod Salvaging
pub mod Unharmed
pub mod Meaning
