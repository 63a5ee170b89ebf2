use Rattle.std.proofs.Common.{List, ◌++◌}
use Rattle.explore.specs.Explored.{classes_in}
use Rattle.outcome_text.specs.declared.survey.Told.{Told}
use Rattle.explore_command.specs.Classes.{AreTold}
use Rattle.explore_command.proofs.classes.tell_all.Given as goal

-- what is told of those that are left goes on from what is told so far
abbrev pub invariant-loop-class : goal.invariant-loop-class
invariant-loop-class g l = (more : List Told) → AreTold l.judged l.named l.opening l.fn.actors (classes_in l.class-iterator.rest.items) more
    → AreTold l.judged l.named l.opening l.fn.actors (classes_in l.fn.classes.items) (l.all.items ++ more)
