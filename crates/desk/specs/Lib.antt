pub mod Fields
pub mod Steps
pub mod After
pub mod Fitted
