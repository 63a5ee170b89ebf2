pub mod Tags
pub mod Onward
