mod SeenBelow
mod AtQuestion
pub mod Parts
mod SeenTo
mod Alone
mod Past
mod Outcome
mod Entries
mod Renames
mod Clearing
mod Bulk
mod EachOperation
pub mod LastQuestion
pub mod Slash
pub mod Behind
mod Resolves
mod PiecesSeen
mod FitPieces
pub mod AtOnce
mod SplitLemmas
