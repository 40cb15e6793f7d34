mod ThreeWords
mod FewWords
mod ChangeWords
mod FurtherWord
pub mod PointWords
mod NumberWords
mod ThreeNumbers
pub mod Names
pub mod Commands
pub mod WordsLists
pub mod Stages
pub mod DataStages
mod WyckoffTexts
mod SampleTexts
mod SiteStages
mod DataTexts
mod Answering
pub mod Soundness
mod Tabled
mod Listed
mod SameGroup
pub mod Outcomes
mod Serving
mod Examples
