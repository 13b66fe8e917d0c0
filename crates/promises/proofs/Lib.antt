pub mod Sets
pub mod Tables
pub mod Shielded
pub mod Shield
pub mod Impostors
