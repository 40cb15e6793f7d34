mod Cuts
mod Told
mod WordSteps
mod Values
mod Handles
