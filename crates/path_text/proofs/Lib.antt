pub mod Lists
pub mod NameBuffers
pub mod PiecesYielded
pub mod PlacesLemmas
pub mod PrintLemmas
pub mod SpellingLemmas
pub mod TextLemmas
