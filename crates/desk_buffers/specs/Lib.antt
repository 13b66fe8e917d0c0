pub mod Bytes
pub mod Buffers
