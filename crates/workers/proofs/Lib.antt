pub mod Works
pub mod Tallies
