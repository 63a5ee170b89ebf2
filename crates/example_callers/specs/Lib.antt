pub mod AmongOthers
pub mod Counting
pub mod Lookup
