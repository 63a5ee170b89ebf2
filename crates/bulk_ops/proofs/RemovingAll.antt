-- Lemmas of RemoveAll.
pub mod Levels
pub mod FirstTurns
pub mod StepCount
pub mod Phases
pub mod StepAnswers
pub mod Underway
pub mod AfterAnswers
pub mod Parts
pub mod Bounded
pub mod EachEnd
pub mod TurnsTell
pub mod Quiet
