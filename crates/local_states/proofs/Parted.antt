-- Components that were met: each once, and known by their places.
pub mod Paired
pub mod Parts
pub mod Once
pub mod Rows
pub mod SameKeys
pub mod Growing
