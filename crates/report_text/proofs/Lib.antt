pub mod AddedLines
pub mod EventLines
pub mod RowKinds
