mod Picked
mod Sums
mod Translations
pub mod Groups
mod CellNumbers
mod Shifting
pub mod Held
pub mod LeftAlone
pub mod ImageFixers
mod ShiftedSets
pub mod SitesOfPoints
pub mod CellAverages
mod MovedLists
mod NearSets
pub mod KeyNumbers
pub mod ConjugateSizes
mod KeyWalk
mod EnoughShifts
mod KeyTests
pub mod ColumnSizes
mod KeySteps
mod KeyRuns
pub mod KeySizes
mod Examples
mod GroupExamples
mod StepExamples
mod Placing
mod Filing
mod PlacedMaps
mod HeldLists
mod FirstBlock
mod GrownGroups
mod GrowingBlocks
mod Putting
mod Products
mod Leading
mod OneKey
mod ImagePoints
