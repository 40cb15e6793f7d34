mod PlainSteps
mod PlainTaken
pub mod Sums
pub mod OrbitSums
pub mod OneMap
pub mod MapSteps
pub mod MapLines
pub mod MapPages
pub mod ValueLaws
mod Examples
