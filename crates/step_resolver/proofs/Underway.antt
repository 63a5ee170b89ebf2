-- Lemmas of a walk under way in a history.
pub mod WalkInvariant
pub mod NextPart
pub mod AfterOpen
pub mod AfterReadLink
pub mod AfterParent
pub mod AfterDupAndClose
pub mod HandlesHeld
pub mod HandleCount
pub mod StepOutcomes
pub mod LegalHistory
pub mod StepCount
pub mod OwnSteps
