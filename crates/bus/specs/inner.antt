-- Forms made for the code: no public contract and no public theorem rests on them.
pub mod Code
pub mod LeadsTo
pub mod Numbers
pub mod Finds
