pub mod CallLemmas
pub mod PassLemmas
pub mod PathLemmas
