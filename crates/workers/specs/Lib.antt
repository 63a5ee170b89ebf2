pub mod Room
pub mod Work
pub mod Serve
