-- Calls, steps and seats are the same but for the numbers of handles; and what a turn leaves as it was.
pub mod Steps
pub mod Turns
pub mod OutsideAlike
pub mod HandlesRenamed
pub mod Paired
