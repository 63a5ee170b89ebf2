pub mod NoNumbers
pub mod EachCause
