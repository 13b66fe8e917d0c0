pub mod Files
pub mod Write
pub mod Open
