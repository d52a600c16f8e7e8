-- `Sizes` has the form of a file, its pak RAM's length, and `fits-exactly`; `Tests` the tests of bodies and of a file.
pub mod Sizes
pub mod Tests
