pub mod PlainTurns
pub mod EachSeat
mod OpensNothing
mod Shorter
mod LegalTurns
mod GivesUp
mod GivingUpEnds
mod CutShort
mod GivenUpWorlds
mod CalmSteps
mod CalmCalls
mod CalmWorlds
pub mod OnceEach
pub mod OneOrder
pub mod OneAnswer
pub mod Sums
pub mod PickedOnce
pub mod PartsCounted
pub mod PartsJoined
pub mod WholePart
pub mod Beginnings
pub mod SearchedPart
