mod Tails
mod NewOnes
pub mod Bare
pub mod Pieces
mod AnyOrder
mod Beginnings
mod Below
mod Heads
mod Sorting
pub mod InPieces
pub mod SameReports
mod Stable
mod Sums
