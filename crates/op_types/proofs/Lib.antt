mod Cycles
mod Members
mod SmallPowers
mod Orders
mod IntrinsicParts
mod Lines
mod Directions
mod Divisors
mod FixedColumns
pub mod OneType
pub mod SomeType
mod PowersOfOperations
mod Examples
