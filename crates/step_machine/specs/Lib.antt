pub mod Told
pub mod Machine
pub mod OnTree
pub mod Tells
pub mod WorkedLookUp
