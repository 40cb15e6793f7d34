pub mod SummedMaps
pub mod Steps
pub mod MapTexts
pub mod ValueLines
pub mod PlainLines
