pub mod Powers
pub mod Numbers
pub mod Rows
pub mod Lengths
