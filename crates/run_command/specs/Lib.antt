pub mod Run
pub mod Replay
pub mod Drawing
pub mod Page
pub mod Jobs
