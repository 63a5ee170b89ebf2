pub mod GiveLemmas
