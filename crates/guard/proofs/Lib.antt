pub mod RunLaws
pub mod AskLaws
pub mod ReportLaws
