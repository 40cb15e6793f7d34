pub mod Boxes
pub mod ClassLists
pub mod Walks
pub mod Tags
pub mod Whole
mod Examples
mod SmallerBoxes
