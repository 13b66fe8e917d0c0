pub mod Page
pub mod Writing
