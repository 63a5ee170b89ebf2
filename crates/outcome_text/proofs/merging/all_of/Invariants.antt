use Rattle.std.proofs.Common.{◌≡◌, ◌++◌}
use Rattle.outcome_text.specs.Merge.{all_of}
use Rattle.outcome_text.proofs.merging.all_of.Given as goal

-- those so far and those of the parts that are left make the whole
abbrev pub invariant-loop-part : goal.invariant-loop-part
invariant-loop-part l = l.all.items ++ all_of l.part-iterator.rest.items ≡ all_of l.fn.parts.items
