use Rattle.std.proofs.Common.{◌≡◌, ◌<◌, ◌+◌, ◌∙◌, [], ℕ, List, drop, ap, sym, subst, length, arith}
use Rattle.std.specs.Prelude.{Option}
use Rattle.smallvec.specs.SmallVec.{SmallVec}
use Rattle.layered_search.specs.declared.frontier.layer.Visited.{Visited}
use Rattle.layered_search.specs.declared.frontier.layer.Configuration.{Configuration}
use Rattle.layered_search.specs.declared.frontier.transitions.Transition.{Transition}
use Rattle.layered_search.specs.Found.{found_of}
use Rattle.layered_search.specs.States.{AreStatesAmong}
use Rattle.layered_search.specs.Expanded.{AreThere, IsNext, AreExpanded}
use Rattle.layered_search.proofs.Layers.Going.{expansion_at, expansion_none, expansion_can, expansion_there, expansion_next}
use Rattle.layered_search.proofs.Layers.Markings.{count_new}
use Rattle.layered_search.proofs.Layers.Among.{among_none, taken_states}
use Rattle.layered_search.proofs.Layers.TooMany.{expansion_more_states}
use Rattle.layered_search.proofs.frontier.passing.go_on.Goals as goal

pub loop-at-init : goal.loop-at-init
loop-at-init g c =
    let v = c.args.system.now in
    let s = g.S.TransitionSystem.system v in
    let k = g.S.TransitionSystem.keys v in
    let laws = g.S.TransitionSystem.are_keys v in
    let memory = c.args.memory.now in
    let layer = c.args.layer.now in
    let transitions : List (SmallVec Transition) = c.args.transitions.now in
    let found : List (List ℕ) = found_of c.args.found.now.items in
    let states = c.no_states.result.states.items in
    record {
      expanded = λ e is.
          subst (λ (xs : List (Visited g.row.S-Key.Denot)).
          AreExpanded s k e memory xs c.new.result.items c.new-2.result.items found) (sym c.no_states.ensures.none)
          (subst (λ (xs : List (Option ℕ)). AreExpanded s k e memory [] xs c.new-2.result.items found)
          (sym c.new.ensures.items)
          (subst (λ (xs : List (SmallVec ℕ)). AreExpanded s k e memory [] [] xs found) (sym c.new-2.ensures.items)
          (expansion_none s k laws e memory layer transitions found is)));
      told = c.requires.told;
      looked_up = c.no_states.ensures.looked_up;
      many = ap length c.new.ensures.items;
      room = omega arith;
      states =
          subst (λ (n : ℕ). AreStatesAmong s k states n 0) (sym (ap length c.no_states.ensures.none))
          (among_none s k laws states);
    }

pub take_in-requires-clause-can : goal.take_in-requires-clause-can
take_in-requires-clause-can g c =
    let v = c.args.system.now in
    let s = g.S.TransitionSystem.system v in
    let k = g.S.TransitionSystem.keys v in
    let laws = g.S.TransitionSystem.are_keys v in
    let layer = c.args.layer.now in
    let transitions : List (SmallVec Transition) = c.args.transitions.now in
    let found : List (List ℕ) = found_of c.args.found.now.items in
    let e = c.requires.expansion.0 in
    let is = c.requires.expansion.1 in
    let at : ℕ = c.loop-at.at in
    let visited = c.index.result.now in
    let those : SmallVec Transition = c.index-transitions-at.result in
    let lt : at < length layer.states.items =
    omega (arith, c.loop-at-test.true, c.loop-at.auto.at-end, c.len-at-end.ensures, layer.states.ok.0) in
    let it =
    expansion_at s k laws e c.args.memory.now layer transitions found is at visited those lt c.index.ensures
    c.index-transitions-at.is in
    expansion_can s k laws e c.args.memory.now layer transitions found is at visited those it.0 it.1
    c.loop-at.memory c.loop-at.passed.known.states.items c.loop-at.passed.end_classes.items
    c.loop-at.passed.places.items (found_of c.loop-at.found.items) (c.loop-at.invariant.expanded e is)

pub take_in-requires-clause-there : goal.take_in-requires-clause-there
take_in-requires-clause-there g c =
    let v = c.args.system.now in
    let s = g.S.TransitionSystem.system v in
    let k = g.S.TransitionSystem.keys v in
    let laws = g.S.TransitionSystem.are_keys v in
    let layer = c.args.layer.now in
    let transitions : List (SmallVec Transition) = c.args.transitions.now in
    let found : List (List ℕ) = found_of c.args.found.now.items in
    let e = c.requires.expansion.0 in
    let is = c.requires.expansion.1 in
    let at : ℕ = c.loop-at.at in
    let visited = c.index.result.now in
    let those : SmallVec Transition = c.index-transitions-at.result in
    let lt : at < length layer.states.items =
    omega (arith, c.loop-at-test.true, c.loop-at.auto.at-end, c.len-at-end.ensures, layer.states.ok.0) in
    let it =
    expansion_at s k laws e c.args.memory.now layer transitions found is at visited those lt c.index.ensures
    c.index-transitions-at.is in
    subst (λ (cs : List Configuration). AreThere s cs c.as_slice-those.result.now)
    (sym c.as_slice-configurations.ensures.value)
    (subst (λ (ms : List Transition). AreThere s layer.configurations.items ms) (sym c.as_slice-those.ensures)
    (expansion_there s k laws e c.args.memory.now layer transitions found is at visited those it.0 it.1
    (g.S.TransitionSystem.is_system v)))

pub loop-at-preserved : goal.loop-at-preserved
loop-at-preserved g c =
    let v = c.args.system.now in
    let s = g.S.TransitionSystem.system v in
    let k = g.S.TransitionSystem.keys v in
    let laws = g.S.TransitionSystem.are_keys v in
    let layer = c.args.layer.now in
    let transitions : List (SmallVec Transition) = c.args.transitions.now in
    let found : List (List ℕ) = found_of c.args.found.now.items in
    let was = c.loop-at.invariant in
    let at : ℕ = c.loop-at.at in
    let n : ℕ = length c.loop-at.passed.end_classes.items in
    let visited = c.index.result.now in
    let those : SmallVec Transition = c.index-transitions-at.result in
    let old = c.loop-at.passed.known.states.items in
    let next = c.take_in.new.passed.known.states.items in
    let lt : at < length layer.states.items =
    omega (arith, c.loop-at-test.true, c.loop-at.auto.at-end, c.len-at-end.ensures, layer.states.ok.0) in
    let it =
    expansion_at s k laws c.requires.expansion.0 c.args.memory.now layer transitions found c.requires.expansion.1 at
    visited those lt c.index.ensures c.index-transitions-at.is in
    let more = c.in_ok-take_in.ensures.more in
    let so_far : n ≡ at = was.many in
    record {
      expanded = λ e is. c.in_ok-take_in.ensures.expanded e (was.expanded e is)
          (subst (λ (cs : List Configuration). IsNext s k e cs n visited c.as_slice-those.result.now)
          (sym c.as_slice-configurations.ensures.value)
          (subst (λ (ms : List Transition). IsNext s k e layer.configurations.items n visited ms)
          (sym c.as_slice-those.ensures)
          (expansion_next s k laws e c.args.memory.now layer transitions found is at visited those it.0 it.1 n
          so_far)));
      told = c.in_ok-take_in.ensures.told;
      looked_up = c.take_in.ensures.looked_up;
      many = omega (arith, more, so_far);
      room = omega (arith, c.if-passed-room.false);
      states =
          taken_states s k laws old next c.loop-at.passed.states c.take_in.new.passed.states c.count_states.result
          c.len-had.result was.states c.in_ok-take_in.ensures.keeps c.in_ok-take_in.ensures.states
          c.take_in.ensures.looked_up.markings (c.len-had.ensures ∙ c.loop-at.passed.known.states.ok.0)
          (c.count_states.ensures
          ∙ ap (λ (xs : List (Visited g.row.S-Key.Denot)). count_new (drop c.len-had.result xs))
          c.as_slice.ensures.value);
    }

pub returns-then-passed-room-clause-err : goal.returns-then-passed-room-clause-err
returns-then-passed-room-clause-err g c = λ limits e states is bounds counted room.
    let v = c.args.system.now in
    let s = g.S.TransitionSystem.system v in
    let k = g.S.TransitionSystem.keys v in
    let laws = g.S.TransitionSystem.are_keys v in
    let layer = c.args.layer.now in
    let transitions : List (SmallVec Transition) = c.args.transitions.now in
    let found : List (List ℕ) = found_of c.args.found.now.items in
    let was = c.loop-at.invariant in
    let at : ℕ = c.loop-at.at in
    let n : ℕ = length c.loop-at.passed.end_classes.items in
    let visited = c.index.result.now in
    let those : SmallVec Transition = c.index-transitions-at.result in
    let old = c.loop-at.passed.known.states.items in
    let next = c.take_in.new.passed.known.states.items in
    let lt : at < length layer.states.items =
    omega (arith, c.loop-at-test.true, c.loop-at.auto.at-end, c.len-at-end.ensures, layer.states.ok.0) in
    let it =
    expansion_at s k laws e c.args.memory.now layer transitions found is at visited those lt c.index.ensures
    c.index-transitions-at.is in
    let so_far : n ≡ at = was.many in
    let expanded = c.in_ok-take_in.ensures.expanded e (was.expanded e is)
    (subst (λ (cs : List Configuration). IsNext s k e cs n visited c.as_slice-those.result.now)
    (sym c.as_slice-configurations.ensures.value)
    (subst (λ (ms : List Transition). IsNext s k e layer.configurations.items n visited ms)
    (sym c.as_slice-those.ensures)
    (expansion_next s k laws e c.args.memory.now layer transitions found is at visited those it.0 it.1 n so_far))) in
    let count : ℕ = c.take_in.new.passed.states + c.count_states.result in
    let more : c.args.room < count = c.if-passed-room.true in
    let among =
    taken_states s k laws old next c.loop-at.passed.states c.take_in.new.passed.states c.count_states.result
    c.len-had.result was.states c.in_ok-take_in.ensures.keeps c.in_ok-take_in.ensures.states
    c.take_in.ensures.looked_up.markings (c.len-had.ensures ∙ c.loop-at.passed.known.states.ok.0)
    (c.count_states.ensures
    ∙ ap (λ (xs : List (Visited g.row.S-Key.Denot)). count_new (drop c.len-had.result xs)) c.as_slice.ensures.value) in
    expansion_more_states s k (g.S.TransitionSystem.is_system v) laws e c.args.memory.now c.take_in.new.memory layer
    transitions found limits.scope next c.take_in.new.passed.end_classes.items c.take_in.new.passed.places.items
    (found_of c.take_in.new.found.items) is expanded bounds states count counted c.counts_states.ensures among
    limits.states (omega (arith, more, room))
