pub mod Forms
pub mod Finding
