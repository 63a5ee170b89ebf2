pub mod Changes
pub mod Build
pub mod Index
