pub mod EntryLemmas
pub mod HeldLemmas
pub mod ListingLemmas
pub mod OpeningLemmas
pub mod Pauses
pub mod PlaceLemmas
