pub mod Again
pub mod Held
pub mod Moments
pub mod Place
pub mod Promises
pub mod Questions
pub mod Witness
