mod Faults
mod Cuts
pub mod DataLaws
pub mod Numbers
mod Examples
