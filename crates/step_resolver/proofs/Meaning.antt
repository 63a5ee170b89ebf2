-- Lemmas of the meaning of a path.
pub mod PartsAndLinks
pub mod Deepest
pub mod Errors
pub mod Parents
pub mod WorkedPaths
pub mod NodesAtEntries
pub mod PlainResolution
