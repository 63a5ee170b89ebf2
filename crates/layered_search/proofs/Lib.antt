pub mod Places
pub mod Lists
pub mod Layers
pub mod Counts
