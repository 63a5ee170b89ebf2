-- Lemmas of what the end of a walk tells.
pub mod EachEnd
pub mod EveryWalk
pub mod WholeMeaning
pub mod DeepestMeaning
pub mod WalksMean
pub mod RacedMeansChange
pub mod EntriesLeftAlone
pub mod TrailsAndMeaning
pub mod WorkedRace
