use Rattle.std.proofs.Common.{◌≡◌, drop}
use Rattle.std.specs.List.{list_any}
use Rattle.outcome_text.specs.Merge.{has_lists}
use Rattle.outcome_text.proofs.merging.have_lists.Given as goal

-- what is left decides
abbrev pub invariant-loop-part : goal.invariant-loop-part
invariant-loop-part l = list_any has_lists (drop l.part-index l.parts) ≡ list_any has_lists l.parts
