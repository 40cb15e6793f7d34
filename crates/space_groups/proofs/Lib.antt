-- points, blocks, averages
pub mod ScaledPoints
pub mod Elements
pub mod BlockRing
pub mod Blocks
pub mod Means
pub mod Carried
pub mod CarriedLists
pub mod RowSizes
pub mod Regions
pub mod Generic
pub mod Keys
pub mod FirstCell
pub mod Intervals
pub mod OpenEnds
pub mod KeyCandidates
-- site-symmetry groups and orbits
pub mod Sites
pub mod Orbits
pub mod Points
pub mod SiteLists
pub mod OrbitLists
pub mod Divided
pub mod Laws
-- the theorem: the rows of a finished search are the row list
pub mod Growing
pub mod Rows
pub mod PointKeys
pub mod Ordered
pub mod FinishedSearch
pub mod Theorem
-- changes of coordinates
pub mod Changes
pub mod ChangedGroups
pub mod ChangedLists
pub mod ChangedCells
pub mod CellTests
pub mod OneOperator
-- which elements a search has to try
pub mod NearOrigin
pub mod ShiftSizes
pub mod Grown
