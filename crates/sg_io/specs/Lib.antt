pub mod Bytes
pub mod Count
pub mod Memory
pub mod Writer
pub mod Streams
