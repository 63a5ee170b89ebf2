pub mod Names
pub mod Parts
pub mod Promises
pub mod Reading
pub mod Seen
