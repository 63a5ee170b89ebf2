pub mod AsBox
pub mod LookedLemmas
pub mod ToldLemmas
pub mod TurnLemmas
pub mod WholeLemmas
