-- What is proved of the handles that a call's own lines open and close.
pub mod OfWalks
pub mod OfBulk
pub mod OfCalls
