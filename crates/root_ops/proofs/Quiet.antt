-- Lemmas of what a call comes to where nobody else acts.
pub mod BulkTrees
pub mod WhatIsMeant
pub mod WorkedOperations
pub mod WalksAlone
pub mod StepsAlone
pub mod EntriesAlone
pub mod RenamesAlone
pub mod BulkAlone
pub mod CallsAlone
pub mod WorkedRename
