pub mod Walks
pub mod Bulk
pub mod Calls
pub mod Lines
