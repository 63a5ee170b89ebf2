-- What an actor has to do and holds, without what came of its calls that ended.
use Rattle.std.specs.Prelude.{[]}
use Rattle.race_core.specs.declared.seat.Seat.{Seat}

abbrev pub without_outcomes : Seat → Seat
without_outcomes seat = record seat { ledger = record seat.ledger { outcomes = [] } }
