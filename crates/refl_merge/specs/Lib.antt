pub mod Keys
pub mod Merged
pub mod Texts
pub mod MeasuredLines
pub mod Steps
