pub mod Report
pub mod Values
