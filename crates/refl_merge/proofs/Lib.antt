mod Order
mod Greatest
pub mod Classes
mod Totals
mod Runs
mod Gathering
mod Finishing
pub mod MergedLists
mod Pages
pub mod LineTexts
mod Examples
