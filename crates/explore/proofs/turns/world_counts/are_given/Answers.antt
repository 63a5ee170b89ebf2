use Rattle.std.proofs.Common.{◌≡◌, ◌<◌, ◌∙◌, ◌++◌, ℕ, List, ap, sym, subst, refl, ⊎_elim, length, arith}
use Rattle.std.specs.Prelude.{Some, slice_get}
use Rattle.std.proofs.lemmas.Bool.{cases_eq}
use Rattle.std.proofs.lemmas.Option.{slice_get_within}
use Rattle.race_core.specs.Book.{tree_now}
use Rattle.race_core.specs.Renamed.{seat_handles}
use Rattle.local_states.specs.Local.{AreGiven}
use Rattle.explore.proofs.turns.world_counts.are_given.Goals as goal

pub loop-actor-preserved : goal.loop-actor-preserved
loop-actor-preserved g c = λ i x lt there.
    let here : i ≡ c.loop-actor.actor → AreGiven (tree_now c.args.world.now.book) x = λ same at h is.
    let seated : slice_get c.args.world.now.seats c.loop-actor.actor ≡ Some x =
    ap (λ k. slice_get c.args.world.now.seats k) (sym same) ∙ there in
    let handles : c.as_slice.result.now ≡ seat_handles x =
    c.as_slice.ensures.value
    ∙ (c.in_ok-push_handles.ensures x seated ∙ ap (λ (hs : List ℕ). hs ++ seat_handles x) c.new-handles.ensures.items)
    in
    subst (λ n. h < n) c.requires
    (c.if-not-are_below.ensures refl at h (ap (λ (hs : List ℕ). slice_get hs at) handles ∙ is)) in
    let elsewhere : (i ≡ c.loop-actor.actor → ⊥)
    → AreGiven (tree_now c.args.world.now.book) x = λ ne. c.loop-actor.invariant i x (omega arith) there in
    ⊎_elim here elsewhere (cases_eq i c.loop-actor.actor)

pub returns : goal.returns
returns g c = λ t i x there.
    let within : i < length c.args.world.now.seats = slice_get_within c.args.world.now.seats i x there in
    c.loop-actor.invariant i x (omega arith) there
