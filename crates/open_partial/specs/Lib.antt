pub mod Beginnings
pub mod Promises
pub mod Search
pub mod Seen
pub mod Trials
