pub mod GivenUpWorlds
pub mod OneAnswer
pub mod Parts
pub mod WantCauses
