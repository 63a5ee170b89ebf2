-- How many steps MkdirAll takes after its walk: the statement of the law.
use Rattle.std.specs.Prelude.{ℕ, ◌+◌, ◌*◌, ◌≤◌, List, length, Bool}
use Rattle.step_resolver.specs.Asked.{AskedPart}
use Rattle.step_resolver.specs.Order.{Way, Handle, Line, found, partial}
use Rattle.bulk_ops.specs.MakeAllOrder.{MakeTurn, after_walk, LeadsTo}

-- Lines that lead on from the walk's end.
abbrev pub StepsAfterTheWalk : Type 0
StepsAfterTheWalk = (way : Way) (room : Bool) (handle : Handle) (names : List (List ℕ))
    (lines : List Line) (end : MakeTurn)
    → (LeadsTo way (after_walk room (found handle names)) lines end → length lines ≤ 1)
    × ((rest : List AskedPart) → LeadsTo way (after_walk room (partial handle names rest)) lines end
    → length lines ≤ 3 * length rest + 2)
