use Rattle.std.proofs.Common.{◌≡◌, ◌++◌, drop}
use Rattle.std.specs.List.{flat_map}
use Rattle.outcome_text.specs.Changes.{change_words}
use Rattle.outcome_text.proofs.changes.all_changes.Given as goal

-- what is written and what is left to write make the whole
abbrev pub invariant-loop-row : goal.invariant-loop-row
invariant-loop-row l =
    l.out ++ flat_map (change_words l.fn.word l.fn.nodes l.fn.others) (drop l.row-index l.rows)
    ≡ l.fn.out ++ flat_map (change_words l.fn.word l.fn.nodes l.fn.others) l.rows
