mod SamePoints
mod Places
pub mod Orbits
pub mod SiteLines
pub mod Placing
pub mod Standing
pub mod SiteTexts
mod Examples
