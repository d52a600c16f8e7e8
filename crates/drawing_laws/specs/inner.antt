-- Forms made for the code: no public contract and no public theorem rests on them.
pub mod SourceBytes
