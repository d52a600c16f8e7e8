-- `Accepting`, `Calling`, `Runs`, `Trapping` and `Extending` prove the statements of specs/.
mod Lists
mod Invariant
mod Psw
mod Results
mod Floats
mod Stores
mod Immediates
mod Registers
mod Exceptions
mod Executes
pub mod Accepting
pub mod Calling
pub mod Runs
pub mod Trapping
pub mod Extending
