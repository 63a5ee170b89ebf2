use Rattle.std.proofs.Common.{◌≡◌, sym, ap, List, length, subst, arith}
use Rattle.schedule_graph.proofs.Passing.{take_whole}
use Rattle.layered_search.specs.declared.found.Class.{Class}
use Rattle.local_states.specs.Worlds.{EndView}
use Rattle.race_core.specs.Worlds.{WorldView}
use Rattle.explore.specs.Explored.{classes_in, scope_with}
use Rattle.explore.specs.Promise.{IsMerged}
use Rattle.explore.specs.Told.{AreToldBy}
use Rattle.explore.proofs.Told.{all_merged}
use Rattle.explore.proofs.search.explore.Goals as goal

pub returns-clause-merged : goal.returns-clause-merged
returns-clause-merged g c =
    let w : WorldView = g.B.Beginnings.opening c.args.beginnings.now in
    let scope = scope_with c.args.limits.now c.args.outside in
    let found = c.in_ok-found.found in
    let new : List (Class EndView) = c.tell_classes.new.classes in
    let told : AreToldBy w c.args.outside found.classes.items new =
    subst (λ (counted : List (Class EndView)). AreToldBy w c.args.outside counted new) c.as_mut_slice.ensures.value c.in_ok-tell_classes.ensures.told in
    let long : found.classes.len ≡ length found.classes.items =
    omega (arith, c.as_mut_slice.ensures.len, ap length c.as_mut_slice.ensures.value) in
    subst (λ (classes : List (Class EndView)). IsMerged w scope (classes_in classes) found.lists found.turns)
    (sym (take_whole found.classes.len new found.classes.items long told.many))
    (all_merged w scope found.classes.items new found.lists found.turns c.in_ok-found.ensures.merged c.in_ok-found.ensures.outcomes told)
