pub mod Subs
pub mod Averages
pub mod Fields
pub mod Conditions
pub mod Conjugates
pub mod Growth
pub mod Filing
