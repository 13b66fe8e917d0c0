pub mod StepLaws
pub mod Pack
pub mod Scans
