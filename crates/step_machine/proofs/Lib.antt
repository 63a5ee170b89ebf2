pub mod Closes
pub mod Machines
pub mod Runs
pub mod Split
