pub mod Due
pub mod Kept
pub mod Turns
pub mod Whole
