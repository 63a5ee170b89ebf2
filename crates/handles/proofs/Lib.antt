pub mod SameNames
