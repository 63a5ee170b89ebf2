pub mod Logs
pub mod Calls
pub mod Opens
pub mod Closes
pub mod LeftOpen
pub mod Threads
pub mod EachCall
mod Courses
