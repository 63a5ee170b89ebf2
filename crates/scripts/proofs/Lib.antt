pub mod Asked
pub mod Json
pub mod Each
pub mod Entries
pub mod FirstRefused
pub mod Roots
pub mod Opened
pub mod Scenarios
pub mod Playable
mod CallFaults
pub mod Texts
