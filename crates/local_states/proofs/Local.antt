-- A turn reads and changes the nodes and its own actor's part alone.
pub mod Parts
pub mod Steps
pub mod Books
pub mod Turns
pub mod Worlds
pub mod Wholes
pub mod OutsideSame
