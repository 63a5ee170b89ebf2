mod Pieces
mod Numbers
mod Sealing
mod Settled
mod PartData
mod SumText
pub mod OneLine
pub mod PartSaid
pub mod OnePart
mod Reading
mod Merged
