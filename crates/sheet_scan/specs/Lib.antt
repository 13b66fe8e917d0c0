pub mod Steps
pub mod Scan
