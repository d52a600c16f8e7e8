pub mod PswMask
pub mod AbsoluteValue
