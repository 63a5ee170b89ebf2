pub mod Choosing
pub mod Opened
pub mod Taken
pub mod Plays
pub mod Pages
