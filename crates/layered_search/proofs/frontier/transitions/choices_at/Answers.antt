use Rattle.std.proofs.Common.{◌≡◌, ◌∙◌, ◌+◌, ◌++◌, ◌∷◌, [], ℕ, List, inr, ⊎_elim, ap, sym, subst, refl, arith}
use Rattle.std.specs.Prelude.{slice_get}
use Rattle.std.proofs.lemmas.Bool.{true≢false}
use Rattle.layered_search.specs.declared.frontier.transitions.Transition.{Transition}
use Rattle.layered_search.specs.declared.frontier.transitions.Choice.{Choice}
use Rattle.layered_search.specs.System.{state_after}
use Rattle.layered_search.specs.Points.{Point}
use Rattle.layered_search.proofs.Layers.Choosing.{AreChoicesBelow, choices_other, choices_more, choices_all, one_of}
use Rattle.layered_search.proofs.frontier.transitions.choices_at.Goals as goal
use Rattle.layered_search.proofs.frontier.transitions.choices_at.Goals.{then-may_go+in_ok-at+in_ok-push, else-may_go}

pub loop-number-preserved : goal.loop-number-preserved
loop-number-preserved g c =
    let s = g.S.TransitionSystem.system c.args.system.now in
    let bounds = c.args.bounds in
    let n : ℕ = c.loop-number.number in
    let was = c.loop-number.invariant in
    elim c.if-may_go.branch [
      | then-may_go+in_ok-at+in_ok-push w ↦
          let choice : Choice = record { actor = n; cost = w.cost_by.result; at = w.in_ok-at.at } in
          let transitions : c.if-may_go.transitions.items ≡ w.transition_at.new.transitions.items =
          ap (λ v. v.items) w.transitions-is in
          let choices : c.if-may_go.choices.items ≡ c.loop-number.choices.items ++ choice ∷ [] =
          ap (λ v. v.items) w.choices-is ∙ w.in_ok-push.ensures.ok in
          record {
            keeps = λ m x there.
                ap (λ (xs : List Transition). slice_get xs m) transitions
                ∙ w.in_ok-at.ensures.keeps m x (was.keeps m x there);
            new = λ m is key j one there. ⊎_elim (was.new m is key j one)
                (λ it. inr (one_of s bounds c.args.configuration
                (record { state = state_after s is; cost = c.args.cost }) n one
                ((c.may_go.ensures m (state_after s is) key).0 w.if-may_go.true) it))
                (w.in_ok-at.ensures.new j one (ap (λ (xs : List Transition). slice_get xs j) (sym transitions)
                ∙ there));
            choices = λ m is key.
                let p : Point g.S.TransitionSystem.State = record { state = state_after s is; cost = c.args.cost } in
                let may = (c.may_go.ensures m (state_after s is) key).0 w.if-may_go.true in
                subst (λ (xs : List Transition). AreChoicesBelow s bounds p xs (n + 1) c.if-may_go.choices.items)
                (sym transitions)
                (subst (λ (xs : List Choice).
                AreChoicesBelow s bounds p w.transition_at.new.transitions.items (n + 1) xs) (sym choices)
                (choices_more s bounds p c.loop-number.transitions.items n c.loop-number.choices.items
                (was.choices m is key) w.transition_at.new.transitions.items w.in_ok-at.ensures.keeps choice
                (record {
                  may = may;
                  cost = w.cost_by.ensures m (state_after s is) key;
                  transition = w.in_ok-at.ensures.there;
                }) refl));
          }
      | else-may_go w ↦
          let transitions : c.if-may_go.transitions.items ≡ c.loop-number.transitions.items =
          ap (λ v. v.items) w.transitions-is in
          let choices : c.if-may_go.choices.items ≡ c.loop-number.choices.items = ap (λ v. v.items) w.choices-is in
          record {
            keeps = λ m x there. ap (λ (xs : List Transition). slice_get xs m) transitions ∙ was.keeps m x there;
            new = λ m is key j one there.
                was.new m is key j one (ap (λ (xs : List Transition). slice_get xs j) (sym transitions) ∙ there);
            choices = λ m is key.
                let p : Point g.S.TransitionSystem.State = record { state = state_after s is; cost = c.args.cost } in
                subst (λ (xs : List Transition). AreChoicesBelow s bounds p xs (n + 1) c.if-may_go.choices.items)
                (sym transitions)
                (subst (λ (xs : List Choice). AreChoicesBelow s bounds p c.loop-number.transitions.items (n + 1) xs)
                (sym choices)
                (choices_other s bounds p c.loop-number.transitions.items n c.loop-number.choices.items
                (was.choices m is key)
                (λ may. true≢false
                (sym ((c.may_go.ensures m (state_after s is) key).1 may) ∙ w.if-may_go.false))));
          }
    ]

pub returns-clause-choices : goal.returns-clause-choices
returns-clause-choices g c = λ n is key.
    let v = c.args.system.now in
    let s = g.S.TransitionSystem.system v in
    let many = c.actors-number-end.ensures c.args.memory.now n (state_after s is) key in
    choices_all s c.args.bounds (record { state = state_after s is; cost = c.args.cost })
    (g.S.TransitionSystem.is_system v) is refl c.loop-number.transitions.items c.loop-number.number
    c.loop-number.choices.items (omega (arith, c.loop-number.auto.number-end, c.loop-number-test.false, many))
    (c.loop-number.invariant.choices n is key)
