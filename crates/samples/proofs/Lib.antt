mod Enclosed
mod EnclosedTests
mod Sets
pub mod Triplets
mod CountSteps
mod CountSums
mod MadePoints
mod Examples
