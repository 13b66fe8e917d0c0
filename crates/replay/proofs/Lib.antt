mod Fitted
mod LineLaws
