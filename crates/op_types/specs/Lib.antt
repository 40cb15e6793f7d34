pub mod ProperPart
pub mod IntrinsicPart
pub mod Axis
pub mod Types
pub mod SmallPowers
pub mod Vector
