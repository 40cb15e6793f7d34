pub mod Rows
pub mod Classes
pub mod Phases
pub mod Runs
pub mod Opposites
pub mod BothPairs
pub mod SomeMark
pub mod Alike
mod CarriedMarks
mod Examples
