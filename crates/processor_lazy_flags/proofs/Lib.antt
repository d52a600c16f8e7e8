pub mod Kept
mod Products
mod Quotients
mod Sums
mod Tests
