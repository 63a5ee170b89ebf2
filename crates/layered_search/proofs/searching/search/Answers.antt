use Rattle.layered_search.specs.Limits.{scope_of}
use Rattle.std.proofs.Common.{◌≡◌, ◌∙◌, List, sym, subst, length}
use Rattle.std.proofs.lemmas.List.{length-map}
use Rattle.schedule_graph.specs.declared.count.Count.{Count}
use Rattle.layered_search.specs.declared.found.Class.{Class}
use Rattle.layered_search.specs.declared.found.Found.{Found}
use Rattle.layered_search.specs.Concluded.{AreShort}
use Rattle.layered_search.specs.Found.{found_of, views_of, AreClassesOf}
use Rattle.layered_search.proofs.Counts.Concluded.{counts_conclude}
use Rattle.layered_search.proofs.Counts.Merges.{counted_by, leasts_there, outcomes_told}
use Rattle.layered_search.proofs.Layers.Fitting.{Fits, fits}
use Rattle.layered_search.proofs.searching.search.Given.{Over}
use Rattle.layered_search.proofs.searching.search.Goals as goal
use Rattle.layered_search.proofs.searching.search.Goals.{In_ok-states, In_ok-counts}

-- the graph fits
its_fits : (g : Over) (c : In_ok-states g)
    → Fits (g.S.TransitionSystem.system c.args.system.now) (scope_of c.args.limits.now.scope) c.go_through.new.graph
    (found_of c.go_through.new.found.items)
its_fits g c =
    let v = c.args.system.now in
    let searched = c.in_ok-states.ensures.searched in
    fits (g.S.TransitionSystem.system v) (g.S.TransitionSystem.is_system v) (scope_of c.args.limits.now.scope) searched.0
    c.go_through.new.graph (found_of c.go_through.new.found.items) searched.1.1 searched.1.0

-- and there are as many counts as outcomes
as_many : (g : Over) (c : In_ok-counts g)
    → length c.in_ok-counts.counts.classes.items ≡ length c.go_through.new.found.items
as_many g c = c.in_ok-counts.ensures.each ∙ (c.len.ensures ∙ c.go_through.new.found.ok.0)

pub classes_of-requires : goal.classes_of-requires
classes_of-requires g c =
    let v = c.args.system.now in
    let at = goal.at.classes_of-requires g c in
    let found : List (Found g.row.S-Outcome.Denot) = c.go_through.new.found.items in
    let fit = its_fits g at.In_ok-states in
    let many = as_many g at.In_ok-counts in
    let all = many ∙ sym (length-map found (λ (one : Found g.row.S-Outcome.Denot). one.turns.items)) in record {
      many = subst (λ (counts : List Count). length counts ≡ length found) (sym c.as_slice.ensures.value) many;
      short = subst (λ (counts : List Count). AreShort counts) (sym c.as_slice.ensures.value)
          (leasts_there (g.S.TransitionSystem.system v) (g.S.TransitionSystem.is_system v) (scope_of c.args.limits.now.scope)
          c.go_through.new.graph (found_of found) fit.at fit.fit fit.found c.in_ok-counts.counts
          c.in_ok-counts.ensures.counts all);
    }

pub returns-clause-merged : goal.returns-clause-merged
returns-clause-merged g c =
    let v = c.args.system.now in
    let s = g.S.TransitionSystem.system v in
    let at = goal.at.returns-clause-merged g c in
    let found : List (Found g.row.S-Outcome.Denot) = c.go_through.new.found.items in
    let classes : List (Class g.row.S-Outcome.Denot) = c.in_ok-classes.classes.items in
    let counts : List Count = c.in_ok-counts.counts.classes.items in
    let fit = its_fits g at.In_ok-states in
    let are : AreClassesOf found counts classes =
    subst (λ (xs : List Count). AreClassesOf found xs classes) c.as_slice.ensures.value c.in_ok-classes.ensures in
    counts_conclude s (g.S.TransitionSystem.is_system v) (scope_of c.args.limits.now.scope) c.go_through.new.graph (found_of found)
    fit.at c.in_ok-counts.counts (views_of classes) fit.fit fit.found c.in_ok-counts.ensures.counts
    (counted_by found counts classes (as_many g at.In_ok-counts) are)

pub returns-clause-outcomes : goal.returns-clause-outcomes
returns-clause-outcomes g c =
    let v = c.args.system.now in
    let at = goal.at.returns-clause-outcomes g c in
    let found : List (Found g.row.S-Outcome.Denot) = c.go_through.new.found.items in
    let classes : List (Class g.row.S-Outcome.Denot) = c.in_ok-classes.classes.items in
    let counts : List Count = c.in_ok-counts.counts.classes.items in
    let fit = its_fits g at.In_ok-states in
    let are : AreClassesOf found counts classes =
    subst (λ (xs : List Count). AreClassesOf found xs classes) c.as_slice.ensures.value c.in_ok-classes.ensures in
    outcomes_told (g.S.TransitionSystem.system v) (g.S.TransitionSystem.is_system v) (g.S.TransitionSystem.outcomes v)
    (scope_of c.args.limits.now.scope) c.go_through.new.graph found fit.at c.in_ok-counts.counts classes fit.fit fit.found
    c.in_ok-counts.ensures.counts (as_many g at.In_ok-counts) c.in_ok-states.ensures.told are
