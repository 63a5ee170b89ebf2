use Rattle.std.proofs.Common.{◌≡◌, ◌++◌, drop}
use Rattle.serde_json.specs.View.{items_view}
use Rattle.scripts.specs.Tree.{entries_of}
use Rattle.scripts.proofs.tree.entries_of.Given as goal

-- the entries so far and those of the values that are left are all of them
abbrev pub invariant-loop-value : goal.invariant-loop-value
invariant-loop-value l = l.entries.items ++ entries_of (items_view (drop l.value-index l.values)) ≡ entries_of (items_view l.values)
