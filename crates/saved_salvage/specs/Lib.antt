pub mod Keep
pub mod Listed
pub mod Differ
pub mod Salvage
pub mod Valid
pub mod Means
pub mod inner
