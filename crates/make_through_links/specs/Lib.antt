pub mod Asking
pub mod Ends
pub mod Pass
pub mod Promises
pub mod Seen
