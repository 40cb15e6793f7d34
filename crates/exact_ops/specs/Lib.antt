pub mod Narrow
pub mod Raw
pub mod Numbers
pub mod OpList
pub mod Fields
pub mod Points
pub mod Moves
pub mod Elements
