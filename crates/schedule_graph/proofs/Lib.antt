pub mod Among
pub mod Leading
pub mod Passing
pub mod Ranks
pub mod Spreading
pub mod Summing
pub mod Telling
