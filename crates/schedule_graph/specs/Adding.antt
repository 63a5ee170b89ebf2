-- Words are counted one lot after another.
use Rattle.std.specs.Prelude.{◌++◌, ◌+◌, ℕ, min, max, [], ◌∷◌, length, Option, Some, None, if◌then◌else◌}
use Rattle.schedule_graph.specs.Words.{Rank, is_at_most, plus}
use Rattle.schedule_graph.specs.declared.graph.Edge.{Edge}
use Rattle.schedule_graph.specs.declared.count.Count.{Count}
use Rattle.schedule_graph.specs.declared.count.TheConstants.{COUNT_CAP}

-- the rank of a word that goes on by that edge
abbrev pub went : Rank → Edge → Rank
went r edge = record {
  cuts = plus edge.cut r.cuts;
  changes = plus edge.change r.changes;
  turns = r.turns ++ edge.label ∷ [];
}

-- the lesser of the two
abbrev pub lesser : Option Rank → Rank → Rank
lesser None r = r
lesser (Some q) r = if is_at_most q r then q else r

-- counted with so many words more, of which that is the least, and none longer
abbrev pub added : Count → ℕ → Rank → Count
added c n r = record {
  words = min (c.words + n) COUNT_CAP;
  longest = max c.longest (length r.turns);
  least = Some (lesser c.least r);
}
