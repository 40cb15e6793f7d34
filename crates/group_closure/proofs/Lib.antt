pub mod CellOperators
pub mod Ordered
pub mod Lists
mod Growing
mod InOrder
pub mod OneMatrix
mod Origins
mod UnderWay
mod Filed
mod Tables
pub mod Places
pub mod Existence
pub mod Examples
