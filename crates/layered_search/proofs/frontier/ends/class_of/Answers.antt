use Rattle.std.proofs.Common.{◌≡◌, ◌∙◌, ◌++◌, ℕ, List, ap, subst, refl}
use Rattle.std.specs.Prelude.{slice_get, Some}
use Rattle.layered_search.specs.declared.found.Found.{Found}
use Rattle.layered_search.proofs.Layers.Endings.{class_there, told_new, class_new}
use Rattle.layered_search.proofs.frontier.ends.class_of.Goals as goal

pub returns-in-Some-clause-class : goal.returns-in-Some-clause-class
returns-in-Some-clause-class g c =
    let v = c.args.system.now in
    let o = g.S.TransitionSystem.outcomes v in
    let outcome = c.in_ok-outcome.outcome in
    class_there (g.S.TransitionSystem.system v) o (g.S.TransitionSystem.is_system v)
    (g.S.TransitionSystem.are_outcomes v) c.args.turns.now outcome c.requires.over
    (c.in_ok-outcome.ensures c.requires.over) c.args.found.now.items c.in-Some.at c.requires.told
    (subst (λ xs. (one : Found g.row.S-Outcome.Denot) × ((slice_get xs c.in-Some.at ≡ Some one)
    × o.AreSame one.outcome outcome)) c.as_slice.ensures.value c.in-Some.ensures.there)

pub returns-clause-told : goal.returns-clause-told
returns-clause-told g c =
    let v = c.args.system.now in
    let o = g.S.TransitionSystem.outcomes v in
    let outcome = c.in_ok-outcome.outcome in
    told_new (g.S.TransitionSystem.system v) o (g.S.TransitionSystem.is_system v)
    (g.S.TransitionSystem.are_outcomes v) c.args.turns.now outcome c.requires.over
    (c.in_ok-outcome.ensures c.requires.over) c.args.found.now.items c.push.new.self.items
    (record { turns = c.extend_from_slice.new.self; outcome = outcome }) c.requires.told
    (c.in_ok-extend_from_slice.ensures.ok
    ∙ ap (λ (xs : List ℕ). xs ++ c.args.turns.now) c.in_ok-own.ensures.items) refl c.in_ok-push.ensures.items
    (subst (λ xs. (m : ℕ) (one : Found g.row.S-Outcome.Denot) → slice_get xs m ≡ Some one
    → o.AreSame one.outcome outcome → ⊥) c.as_slice.ensures.value c.in_default.ensures.none)

pub returns-clause-class : goal.returns-clause-class
returns-clause-class g c =
    let v = c.args.system.now in
    let o = g.S.TransitionSystem.outcomes v in
    let outcome = c.in_ok-outcome.outcome in
    class_new (g.S.TransitionSystem.system v) o (g.S.TransitionSystem.is_system v)
    (g.S.TransitionSystem.are_outcomes v) c.args.turns.now outcome c.requires.over
    (c.in_ok-outcome.ensures c.requires.over) c.args.found.now.items c.push.new.self.items
    (record { turns = c.extend_from_slice.new.self; outcome = outcome }) c.requires.told
    (c.in_ok-extend_from_slice.ensures.ok
    ∙ ap (λ (xs : List ℕ). xs ++ c.args.turns.now) c.in_ok-own.ensures.items) refl c.in_ok-push.ensures.items
    (subst (λ xs. (m : ℕ) (one : Found g.row.S-Outcome.Denot) → slice_get xs m ≡ Some one
    → o.AreSame one.outcome outcome → ⊥) c.as_slice.ensures.value c.in_default.ensures.none)
    c.len-at.result (c.len-at.ensures ∙ c.args.found.now.ok.0)
