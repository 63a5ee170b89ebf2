pub mod Booked
pub mod OwnHistory
mod Stepping
mod Starting
mod Running
pub mod GivenUp
pub mod CutShort
pub mod JoinedRuns
pub mod ReportsThere
mod Granting
mod HeldOpen
mod HeldByCalls
mod KeptOpen
pub mod BookMoves
pub mod CallsSoFar
pub mod WorldSoFar
mod ReportsTell
pub mod HandlesLeft
pub mod OneEnd
pub mod LikeLists
pub mod LikeSeats
pub mod WorkedRun
