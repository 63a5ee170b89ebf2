-- Lemmas of trails and stops.
pub mod Joined
pub mod MeaningOfTrail
pub mod TrailOfObject
