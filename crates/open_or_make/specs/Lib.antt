pub mod Pass
pub mod Paths
pub mod Promises
pub mod Requests
pub mod Seen
