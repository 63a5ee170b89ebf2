pub mod Lists
pub mod Merging
pub mod Options
pub mod PartRead
pub mod PartText
pub mod Printed
pub mod ReadBack
pub mod Seal
