pub mod Course
pub mod Promises
pub mod Runs
pub mod Seen
pub mod Taking
pub mod Tries
