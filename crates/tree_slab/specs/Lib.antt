pub mod Cache
pub mod Calls
pub mod Directories
pub mod Index
pub mod Counts
pub mod Cached
