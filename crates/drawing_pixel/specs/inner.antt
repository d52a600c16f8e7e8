-- Forms made for the code: no public contract and no public theorem rests on them.
pub mod Halfwords
pub mod BiasedFields
pub mod BiasedWindow
pub mod BiasedSource
pub mod BiasedCell
pub mod BiasedObject
pub mod Places
pub mod Buffer
pub mod Painting
