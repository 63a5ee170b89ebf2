pub mod Exchanging
pub mod Moved
pub mod MeetingLaws
