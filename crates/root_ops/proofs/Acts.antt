pub mod WalksAndRest
pub mod OwnStep
pub mod Renames
pub mod EachOperation
