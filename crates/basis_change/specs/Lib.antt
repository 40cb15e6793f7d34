pub mod Wide
pub mod Frames
pub mod Laws
pub mod Changes
