pub mod Rows
pub mod Equivalent
pub mod Marks
pub mod Tallies
pub mod Halves
