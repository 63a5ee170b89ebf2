-- Whoever found no memory tells of it; a run in which nobody does had memory for all.
pub mod Lucky
pub mod Followed
