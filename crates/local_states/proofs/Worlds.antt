-- A world is a system of actors who take turns.
pub mod Like
pub mod Ends
pub mod System
