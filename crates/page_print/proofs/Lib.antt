pub mod LineTexts
pub mod Counting
pub mod Gathering
pub mod Places
pub mod WalkPages
pub mod PartTexts
pub mod Pushed
