pub mod Runs
pub mod Ask
pub mod Report
pub mod Calls
