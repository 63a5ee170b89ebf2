pub mod TextLemmas
pub mod TellLemmas
pub mod WitnessLemmas
pub mod AgreeLemmas
pub mod CallLemmas
pub mod MomentLemmas
pub mod HeldLemmas
