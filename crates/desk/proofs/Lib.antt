pub mod Fitted
mod StepLaws
