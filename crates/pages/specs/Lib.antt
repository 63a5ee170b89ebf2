pub use Rattle.report_text.specs.Report
pub use Rattle.drawings.specs.Picture
pub mod Changes
pub mod History
pub mod Run
pub mod Shown
pub mod Page
pub mod PageLaws
