pub mod Nodes
pub mod Building
pub mod Lasting
pub mod Sorting
pub mod Ways
pub mod Built
pub mod Stood
pub mod Index
