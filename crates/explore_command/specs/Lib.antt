pub mod Classes
pub mod Explore
pub mod ExplorePart
pub mod Gauge
pub mod Part
pub mod Replayed
pub mod Surveyed
pub mod WholeCalls
