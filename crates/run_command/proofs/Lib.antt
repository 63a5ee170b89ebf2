pub mod Lines
pub mod Replays
pub mod Shown
pub mod Drawings
pub mod Pages
pub mod Owners
pub mod Services
pub mod Releases
