pub mod Digits
pub mod Walks
pub mod Firsts
pub mod Whole
pub mod FirstPlaces
pub mod Sums
mod Examples
