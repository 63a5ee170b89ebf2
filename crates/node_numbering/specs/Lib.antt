pub mod Exchanges
pub mod Meeting
pub mod Renumbered
pub mod Seen
