pub mod LinkLemmas
pub mod Moments
pub mod OpenLemmas
pub mod ParentLemmas
mod ChangeLemmas
pub mod RenameLemmas
mod RuleLemmas
