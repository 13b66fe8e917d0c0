pub mod FileLaws
pub mod OpenLaws
pub mod WriteLaws
pub mod Numbers
pub mod Opening
pub mod Trips
pub mod OneSet
pub mod Keeps
