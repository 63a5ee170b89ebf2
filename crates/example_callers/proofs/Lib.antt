pub mod Closing
pub mod Led
pub mod Rooted
