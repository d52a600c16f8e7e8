pub mod Devices
mod Indices
mod Power
pub mod Lengths
mod Limits
pub mod Sizes
mod Numbers
pub mod Led
pub mod Places
pub mod Halfwords
pub mod Spans
mod VipPlaces
pub mod VramIndex
mod PakRam
pub mod PortAccess
mod Accesses
mod VipAccess
pub mod Aligned
pub mod ByPlace
pub mod DrawingPlaces
pub mod Steps
pub mod Bytes
pub mod Accepted
pub mod Kept
pub mod Mapped
pub mod LoadStore
pub mod Fetches
