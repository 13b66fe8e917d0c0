pub mod Texts
pub mod Words
pub mod Buffers
pub mod Forms
pub mod Lines
pub mod Kinds
pub mod Mangled
pub mod Taken
