use Rattle.std.specs.Iterator.Adapters.{zip_first, zip_second}
use Rattle.std.specs.Slice.Iter.{iter_rest}
use Rattle.std.specs.Vec.Iter.{into_iter_items}
use Rattle.layered_search.proofs.Counts.Classes.{AreClassesTo}
use Rattle.layered_search.proofs.searching.classes_of.Given as goal

abbrev pub invariant-loop-one : goal.invariant-loop-one
invariant-loop-one g l =
    AreClassesTo l.fn.found.items (into_iter_items (zip_first l.one-iterator)) l.counts
    (iter_rest (zip_second l.one-iterator)) l.classes.items
