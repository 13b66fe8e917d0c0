pub mod Pages
pub mod Placed
