pub mod Changes
pub mod Below
