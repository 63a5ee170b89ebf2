pub mod AnswerLemmas
pub mod RemovalLemmas
pub mod RingLemmas
