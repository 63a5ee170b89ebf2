pub mod CourseLemmas
pub mod TryLemmas
