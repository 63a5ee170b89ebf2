-- Lists of turns: their cost, and what stands where in them.
pub mod Along
pub mod Turning
pub mod SearchLaws
pub mod Chains
