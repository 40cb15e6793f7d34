pub mod Sizes
pub mod Steps
pub mod Frames
pub mod Quotients
pub mod Generators
pub mod ChangedGroup
pub mod Reflections
mod ChangedMarks
pub mod Indices
pub mod ChangedPoints
pub mod Decided
pub mod Existence
mod Examples
mod LawExamples
