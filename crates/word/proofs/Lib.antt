-- `Choices` has the laws of tests and choices, `Listed` those of numbers that are listed, `Bytes` those of bytes put into a list, `Integers` those of whole
-- numbers as differences of natural ones, `Signs` those by their signs, `Floors` floor division, `Readings` signed
-- readings and `Extended` sign extension.
pub mod Choices
pub mod Listed
pub mod Bytes
pub mod Integers
pub mod Signs
pub mod Floors
pub mod Readings
pub mod Extended
