pub mod CallLemmas
pub mod LinkLemmas
pub mod PassLemmas
