pub mod Replayed
pub mod Unsurveyed
mod WholeCalls
mod PartWritten
mod WhoMight
