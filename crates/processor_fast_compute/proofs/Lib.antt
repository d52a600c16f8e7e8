pub mod Results
mod Extends
mod Floats
