pub mod Boxes
pub mod ClassLists
pub mod Walks
