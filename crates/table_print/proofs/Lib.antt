pub mod SiteTexts
pub mod SitePages
pub mod TypeLines
pub mod ClassTexts
pub mod ClassPages
pub mod GridTexts
pub mod GridPages
pub mod RowSizes
pub mod RowPages
pub mod FormTexts
pub mod TablePages
mod RowLines
mod TextPoints
mod SampleTexts
