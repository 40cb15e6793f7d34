pub mod Fields
pub mod DataLines
