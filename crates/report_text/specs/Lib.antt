pub use Rattle.tree_model.specs.Rows
pub use Rattle.event_log.specs.Output
pub use Rattle.event_log.specs.Words
pub mod Json
pub mod Report
pub mod ReportLaws
