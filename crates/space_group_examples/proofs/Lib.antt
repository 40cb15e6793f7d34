mod Examples
mod Changes
mod Inversion
mod NineRows
mod InversionPoints
