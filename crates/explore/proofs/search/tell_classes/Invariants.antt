use Rattle.explore.proofs.Told.{AreToldTo}
use Rattle.explore.proofs.search.tell_classes.Given as goal

-- the classes so far are told
abbrev pub invariant-loop-class : goal.invariant-loop-class
invariant-loop-class g l = AreToldTo (g.B.Beginnings.opening l.beginnings) l.fn.outside l.class-index l.initial.classes l.classes
