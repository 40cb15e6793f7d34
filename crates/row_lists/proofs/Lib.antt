pub mod Finite
pub mod SomeKey
pub mod SharedRows
pub mod TableOfRows
pub mod GenericPoints
pub mod Theorem
