pub mod Alone
pub mod WorkedEnds
