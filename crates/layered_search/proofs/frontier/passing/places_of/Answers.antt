use Rattle.std.proofs.Common.{◌≡◌, ◌<◌, ◌+◌, [], ℕ, List, get_or, take, length, sym, subst, refl, arith}
use Rattle.std.specs.Prelude.{slice_get, Some}
use Rattle.std.proofs.lemmas.List.{take_more}
use Rattle.std.proofs.lemmas.Option.{slice_get-get_or, slice_get_read}
use Rattle.layered_search.specs.declared.frontier.layer.Configuration.{Configuration}
use Rattle.layered_search.specs.declared.frontier.transitions.Transition.{Transition}
use Rattle.layered_search.specs.Expanded.{AreTaken}
use Rattle.layered_search.proofs.Layers.Going.{can_still, taken_none, taken_more}
use Rattle.layered_search.proofs.frontier.passing.places_of.Goals as goal

pub loop-at-init : goal.loop-at-init
loop-at-init g c =
    let v = c.args.system.now in
    let s = g.S.TransitionSystem.system v in
    let k = g.S.TransitionSystem.keys v in
    record {
      looked_up = c.requires.looked_up;
      taken =
          subst (λ (xs : List ℕ). AreTaken s k c.args.configurations.now c.args.visited.now [] c.args.memory.now
          c.args.memory.now c.args.known.now.states.items c.args.known.now.states.items xs)
          (sym c.in_ok-places.ensures.items)
          (taken_none s k (g.S.TransitionSystem.are_keys v) c.args.configurations.now c.args.visited.now
          c.args.memory.now c.args.known.now.states.items c.requires.can.sound);
    }

pub place_after-requires-clause-can : goal.place_after-requires-clause-can
place_after-requires-clause-can g c =
    let v = c.args.system.now in
    let was = c.loop-at.invariant.taken in
    can_still (g.S.TransitionSystem.system v) (g.S.TransitionSystem.keys v) (g.S.TransitionSystem.are_keys v)
    c.args.visited.now c.args.memory.now c.loop-at.memory was.sound was.grows c.requires.can

pub place_after-requires-clause-there : goal.place_after-requires-clause-there
place_after-requires-clause-there g c =
    let transitions : List Transition = c.args.transitions.now in
    let d : Transition = record { configuration = 0; actor = 0 } in
    let lt : c.loop-at.at < length transitions = omega (arith, c.loop-at-test.true, c.loop-at.auto.at-end) in
    (c.requires.there c.loop-at.at (get_or transitions c.loop-at.at d)
    (slice_get-get_or transitions c.loop-at.at d lt)).0

pub loop-at-preserved : goal.loop-at-preserved
loop-at-preserved g c =
    let v = c.args.system.now in
    let transitions : List Transition = c.args.transitions.now in
    let configurations : List Configuration = c.args.configurations.now in
    let at : ℕ = c.loop-at.at in
    let d : Transition = record { configuration = 0; actor = 0 } in
    let one : Transition = get_or transitions at d in
    let lt : at < length transitions = omega (arith, c.loop-at-test.true, c.loop-at.auto.at-end) in
    let inside : one.configuration < length configurations =
    (c.requires.there at one (slice_get-get_or transitions at d lt)).1 in
    let configuration : Configuration = c.index-configurations-one.result in
    let there : slice_get configurations one.configuration ≡ Some configuration =
    slice_get_read configurations (length configurations) one.configuration configuration refl inside
    c.index-configurations-one.is in
    record {
      looked_up = c.place_after.ensures.looked_up;
      taken =
          taken_more (g.S.TransitionSystem.system v) (g.S.TransitionSystem.keys v) (g.S.TransitionSystem.are_keys v)
          configurations c.args.visited.now c.args.memory.now c.loop-at.memory c.place_after.new.memory
          c.args.known.now.states.items c.loop-at.known.states.items c.place_after.new.known.states.items
          (take at transitions) c.loop-at.places.items one configuration c.in_ok-place.place c.loop-at.invariant.taken
          c.in_ok-place.ensures.taken there (take (at + 1) transitions) c.push.new.self.items
          (take_more transitions at d lt) c.in_ok-push.ensures.ok;
    }
