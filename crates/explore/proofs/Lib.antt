pub mod OutOfMemory
pub mod Lists
pub mod Keyed
pub mod Told
pub mod Opened
