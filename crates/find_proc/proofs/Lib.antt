pub mod FindLemmas
pub mod HandLemmas
pub mod Parts
pub mod PrivateLemmas
