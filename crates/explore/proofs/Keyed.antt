-- Worlds as keys: what a turn makes of a key, and when worlds with one key are the same.
pub mod Growing
pub mod OneTurn
pub mod KnownTurn
pub mod Found
