-- What is counted: the words of the graph, and the classes that are told.
pub mod Begun
pub mod Merged
pub mod Concluded
pub mod Merges
pub mod Classes
