pub mod Matrix
pub mod Operator
pub mod Map
pub mod Powers
pub mod Point
