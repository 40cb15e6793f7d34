mod Texts
mod ByteKinds
mod Options
mod Ranges
mod Values
mod TermTexts
mod SumTexts
pub mod GrammarLaw
mod Components
mod ReadBack
mod Written
mod Trims
mod Bounds
mod Totals
pub mod Cuts
mod Rows
pub mod CoordinateLaw
pub mod IntegerLaw
pub mod LowestTerms
mod Printed
mod AffineBytes
mod AffineUnique
pub mod AffineValues
pub mod AffineSame
pub mod SaidLines
pub mod LineSteps
pub mod LineLaws
mod Examples
pub mod Decided
mod Dividers
pub mod Divisions
pub mod PointTexts
