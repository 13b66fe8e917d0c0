pub mod TextLaws
pub mod WordLaws
pub mod LineLaws
pub mod Ranges
pub mod Mangled
pub mod Taken
pub mod Rows
