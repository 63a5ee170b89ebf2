pub mod Giving
pub mod Made
pub mod Promises
pub mod Seen
