pub mod BeginningLemmas
pub mod FewLemmas
pub mod SearchLemmas
