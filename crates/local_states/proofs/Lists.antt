-- Turns one after another.
pub mod Runs
