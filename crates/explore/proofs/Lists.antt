-- Lists of turns, and reports on them.
pub mod SearchLaws
pub mod Replayed
pub mod Told
