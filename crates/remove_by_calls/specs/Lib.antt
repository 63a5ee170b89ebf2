pub mod Answers
pub mod Promises
pub mod Removal
pub mod Seen
