pub mod SpaceOfGroup
pub mod Shifts
pub mod FixingLists
pub mod ConjugatePoints
