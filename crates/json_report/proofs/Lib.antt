pub mod PlainTexts
mod Written
pub mod ReportTexts
