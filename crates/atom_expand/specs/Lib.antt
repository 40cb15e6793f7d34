pub mod Labels
pub mod Padding
pub mod Sites
pub mod Expansions
pub mod Steps
pub mod Printing
