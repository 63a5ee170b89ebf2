pub mod HandlesHeld
pub mod OwnEvents
pub mod AfterWalks
pub mod WalkParts
pub mod CallsTell
pub mod BulkHistory
