pub mod Merged
pub mod Printed
