pub mod State
pub mod System
pub mod PswMask
pub mod AbsoluteValue
pub mod FloatCause
pub mod Exception
