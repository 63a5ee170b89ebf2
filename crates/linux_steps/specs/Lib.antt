pub mod Changes
pub mod Linux
pub mod Promises
pub mod Rules
pub mod Steps
