use Rattle.std.proofs.Common.{◌≡◌, ◌++◌, List, ℕ}
use Rattle.std.specs.Io.KnownBytes.{Appends}
use Rattle.std.specs.Iterator.Adapters.{zip_first, zip_second}
use Rattle.std.specs.Slice.Iter.{iter_rest}
use Rattle.outcome_text.specs.Survey.{woven}
use Rattle.outcome_text.proofs.writing.write_blocks.Given as goal

-- what is written and what is left to write make the whole
abbrev pub invariant-loop-told : goal.invariant-loop-told
invariant-loop-told g l = (done : List ℕ)
    × (Appends (g.W.Write.contents l.fn.writer) (g.W.Write.contents l.writer) done
    × (done ++ woven (iter_rest (zip_second l.told-iterator)) (iter_rest (zip_first l.told-iterator)) ≡ woven l.heads l.all))
