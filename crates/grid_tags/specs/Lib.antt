pub mod Grids
pub mod GridLists
pub mod Walks
pub mod Steps
pub mod Axes
