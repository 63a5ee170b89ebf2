pub mod Adding
pub mod Counted
pub mod Led
pub mod Words
