pub mod Alike
pub mod Local
pub mod OutOfMemory
pub mod Lists
pub mod Counting
pub mod Parted
pub mod Worlds
