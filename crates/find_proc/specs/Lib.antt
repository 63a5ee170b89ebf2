pub mod Asks
pub mod Find
pub mod HandIn
pub mod Private
pub mod Promises
pub mod Seen
