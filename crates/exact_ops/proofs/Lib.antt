pub mod Narrow
pub mod Bounds
pub mod Listed
pub mod Points
pub mod Images
mod ShiftedImages
mod WholeShifts
mod Examples
