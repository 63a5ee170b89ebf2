pub mod PartsLemmas
pub mod PlanLemmas
pub mod SameLemmas
