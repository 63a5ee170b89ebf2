-- Lemmas of a RemoveAll call while no other actor takes a step.
pub mod Gone
pub mod Falls
pub mod Shrinks
pub mod FirstStep
pub mod Whole
