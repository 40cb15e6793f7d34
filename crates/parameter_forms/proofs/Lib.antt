pub mod Along
pub mod Columns
pub mod OneForm
pub mod SamePoints
pub mod Passed
pub mod LowestTerms
pub mod Reading
pub mod Shifts
pub mod Scaling
pub mod Planes
pub mod Lines
pub mod Spanning
pub mod SomeForm
mod Examples
