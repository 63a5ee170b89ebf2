use Rattle.std.proofs.Common.{◌≡◌, ◌≤◌, ◌++◌, ℕ, List, length, drop}
use Rattle.system_calls.specs.Listing.{entries_text, ReadsTo}
use Rattle.system_calls.proofs.records.take_names.Given as goal

-- the names of the records that were read lie at the room's beginning
abbrev pub invariant-loop-rest : goal.invariant-loop-rest
invariant-loop-rest l =
    (names : List (List ℕ)) × ReadsTo l.records names l.rest × (l.used ≡ length (entries_text names)) × (l.used ≤ length l.room)
    × (l.room ≡ entries_text names ++ drop (length (entries_text names)) l.initial.room)

abbrev pub decreases-loop-rest : goal.decreases-loop-rest
decreases-loop-rest l = length l.rest
