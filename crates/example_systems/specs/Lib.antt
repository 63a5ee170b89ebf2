pub mod Plain
pub mod Rows
pub mod Counter
pub mod Lock
pub mod Philosophers
