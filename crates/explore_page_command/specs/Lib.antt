pub mod Played
pub mod ExplorePage
