use Rattle.std.specs.Io.KnownBytes.{Consumes}
use Rattle.explore_parts.proofs.merge.read_all.Given as goal

-- what was read and what is left make what there was
abbrev pub invariant-loop : goal.invariant-loop
invariant-loop g l =
    let remaining = g.R.Read.remaining in
    Consumes (remaining l.fn.reader) (remaining l.reader) l.all.items
