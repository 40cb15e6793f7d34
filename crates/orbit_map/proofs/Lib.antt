mod Nearer
mod Images
mod Order
pub mod OrbitLists
mod Counts
mod Examples
