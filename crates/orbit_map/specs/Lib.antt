pub mod OrderedOrbit
pub mod Placed
pub mod Steps
