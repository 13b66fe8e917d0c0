pub mod Reports
pub mod Figures
pub mod Keeps
