-- `AnyOrder` and `FramesSwap` prove the statements of specs/Order; `DrawnBytes` is what they rest on.
pub mod AnyOrder
pub mod FramesSwap
mod DrawnBytes
