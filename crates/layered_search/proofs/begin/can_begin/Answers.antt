use Rattle.layered_search.specs.Limits.{scope_of}
use Rattle.std.proofs.Common.{◌≡◌, ◌≤◌, ◌<◌, ◌+◌, ◌++◌, ◌∷◌, [], ◌∙◌, ℕ, suc, List, length, sym, ap, subst, arith}
use Rattle.std.specs.Prelude.{slice_get, slice_index_or}
use Rattle.std.proofs.lemmas.List.{take_all}
use Rattle.std.proofs.lemmas.Option.{get_or_from_slice_get}
use Rattle.layered_search.specs.declared.cost.Cost.{Cost}
use Rattle.layered_search.specs.System.{Follows, state_after}
use Rattle.layered_search.specs.Asked.{IsOnWay}
use Rattle.layered_search.specs.Points.{AreWithin}
use Rattle.layered_search.specs.States.{IsSoFar}
use Rattle.layered_search.proofs.Layers.OnWay.{on_way_of}
use Rattle.layered_search.proofs.Layers.SoFar.{none_so_far}
use Rattle.layered_search.proofs.Layers.Beginning.{key_now, key_here, first_many, more_turns, next_so_far, next_within, next_key}
use Rattle.layered_search.proofs.begin.can_begin.Goals as goal
use Rattle.layered_search.proofs.begin.can_begin.Goals.{in-Some, in-None}

pub loop-at-init : goal.loop-at-init
loop-at-init g c =
    let v = c.args.system.now in
    let s = g.S.TransitionSystem.system v in
    let k = g.S.TransitionSystem.keys v in
    let scope = (scope_of c.args.limits.now.scope) in
    record {
      turns = c.new-turns.ensures.items;
      sound = c.requires.sound;
      grows = (g.S.TransitionSystem.are_keys v).grows_itself c.args.memory.now;
      key =
          subst (λ (xs : List ℕ). k.IsKey c.args.memory.now 0 (state_after s xs) c.args.key.now)
          (sym c.new-turns.ensures.items) c.requires.key;
      so_far =
          subst (λ (xs : List ℕ). IsSoFar s scope xs c.no_cost-cost.result) (sym c.new-turns.ensures.items)
          (subst (λ (cost : Cost). IsSoFar s scope [] cost) (sym c.no_cost-cost.ensures) (none_so_far s scope));
      within =
          subst (λ (cost : Cost). AreWithin cost 0) (sym c.no_cost-cost.ensures)
          (record { cuts = omega arith; changes = omega arith });
      few = omega arith;
    }

pub cost_at-requires-clause-known : goal.cost_at-requires-clause-known
cost_at-requires-clause-known g c =
    let v = c.args.system.now in
    let s = g.S.TransitionSystem.system v in
    let k = g.S.TransitionSystem.keys v in
    let turns : List ℕ = c.loop-at.turns.items in
    let at : ℕ = c.loop-at.at in
    let is : c.match-own.now.now ≡ key_now c.loop-at.own c.args.key.now =
    elim c.match-own.branch [
      | in-Some w ↦ ap (λ r. r.now) w.now-is ∙ ap (λ o. key_now o c.args.key.now) (sym w.in-Some.is)
      | in-None w ↦ ap (λ r. r.now) w.now-is ∙ ap (λ o. key_now o c.args.key.now) (sym w.in-None.is)
    ] in
    let here : k.IsKey c.loop-at.memory at (state_after s turns) c.match-own.now.now =
    key_here (λ x. k.IsKey c.loop-at.memory at (state_after s turns) x) c.loop-at.own c.args.key.now
    c.match-own.now.now is c.loop-at.invariant.key in
    (at, (state_after s turns, here))

pub next-requires-clause-there : goal.next-requires-clause-there
next-requires-clause-there g c =
    let v = c.args.system.now in
    let s = g.S.TransitionSystem.system v in
    let k = g.S.TransitionSystem.keys v in
    let turns : List ℕ = c.loop-at.turns.items in
    let at : ℕ = c.loop-at.at in
    let is : c.match-own.now.now ≡ key_now c.loop-at.own c.args.key.now =
    elim c.match-own.branch [
      | in-Some w ↦ ap (λ r. r.now) w.now-is ∙ ap (λ o. key_now o c.args.key.now) (sym w.in-Some.is)
      | in-None w ↦ ap (λ r. r.now) w.now-is ∙ ap (λ o. key_now o c.args.key.now) (sym w.in-None.is)
    ] in
    let here : k.IsKey c.loop-at.memory at (state_after s turns) c.match-own.now.now =
    key_here (λ x. k.IsKey c.loop-at.memory at (state_after s turns) x) c.loop-at.own c.args.key.now
    c.match-own.now.now is c.loop-at.invariant.key in
    let taken = c.in_ok-cost.ensures.ok turns at c.loop-at.invariant.turns here in
    let lt : taken.actor < s.actors = (g.S.TransitionSystem.is_system v).few turns taken.actor taken.busy in
    let read : slice_index_or c.as_slice-begin.result.now at 0 ≡ taken.actor =
    get_or_from_slice_get c.as_slice-begin.result.now at taken.actor 0
    (ap (λ (xs : List ℕ). slice_get xs at) c.as_slice-begin.ensures.value ∙ taken.there) in
    omega (arith, lt, read)

pub loop-at-preserved : goal.loop-at-preserved
loop-at-preserved g c =
    let v = c.args.system.now in
    let s = g.S.TransitionSystem.system v in
    let k = g.S.TransitionSystem.keys v in
    let laws = g.S.TransitionSystem.is_system v in
    let scope = (scope_of c.args.limits.now.scope) in
    let begin : List ℕ = scope.begin in
    let turns : List ℕ = c.loop-at.turns.items in
    let at : ℕ = c.loop-at.at in
    let was = c.loop-at.invariant in
    let is : c.match-own.now.now ≡ key_now c.loop-at.own c.args.key.now =
    elim c.match-own.branch [
      | in-Some w ↦ ap (λ r. r.now) w.now-is ∙ ap (λ o. key_now o c.args.key.now) (sym w.in-Some.is)
      | in-None w ↦ ap (λ r. r.now) w.now-is ∙ ap (λ o. key_now o c.args.key.now) (sym w.in-None.is)
    ] in
    let here : k.IsKey c.loop-at.memory at (state_after s turns) c.match-own.now.now =
    key_here (λ x. k.IsKey c.loop-at.memory at (state_after s turns) x) c.loop-at.own c.args.key.now
    c.match-own.now.now is c.loop-at.invariant.key in
    let taken = c.in_ok-cost.ensures.ok turns at was.turns here in
    let within : at < length begin =
    omega (arith, c.loop-at-test.true, c.loop-at.auto.at-end, ap length c.as_slice-begin.ensures.value) in
    let le : at ≤ length begin = omega (arith, within) in
    let read : slice_index_or c.as_slice-begin.result.now at 0 ≡ taken.actor =
    get_or_from_slice_get c.as_slice-begin.result.now at taken.actor 0
    (ap (λ (xs : List ℕ). slice_get xs at) c.as_slice-begin.ensures.value ∙ taken.there) in
    let more : c.in_ok-turns.turns.items ≡ turns ++ taken.actor ∷ [] =
    c.in_ok-turns.ensures
    ∙ (ap (λ (xs : List ℕ). xs ++ slice_index_or c.as_slice-begin.result.now at 0 ∷ []) c.as_slice-in-loop-at.ensures
    ∙ ap (λ (a : ℕ). turns ++ a ∷ []) read) in
    let long : length c.as_slice.result.now ≡ at =
    ap length (c.as_slice.ensures ∙ was.turns) ∙ first_many begin at le in
    let follows = subst (λ (n : ℕ).
    Follows s k c.loop-at.memory c.next.new.memory n c.match-own.now.now taken.actor c.in_ok-next.next) long
    (subst (λ (a : ℕ). Follows s k c.loop-at.memory c.next.new.memory (length c.as_slice.result.now)
    c.match-own.now.now a c.in_ok-next.next) read c.in_ok-next.ensures.follows) in
    let up : at + 1 ≡ suc at = omega arith in
    let few = c.in_ok-cost.ensures.few in
    record {
      turns = more_turns begin turns c.in_ok-turns.turns.items at taken.actor was.turns taken.there more;
      sound = c.in_ok-next.ensures.sound;
      grows =
          (g.S.TransitionSystem.are_keys v).grows_on c.args.memory.now c.loop-at.memory c.next.new.memory was.grows
          c.in_ok-next.ensures.grows;
      key =
          next_key s k c.loop-at.memory c.next.new.memory turns c.in_ok-turns.turns.items taken.actor at (at + 1)
          c.match-own.now.now c.in_ok-next.next follows here more up;
      so_far =
          next_so_far s laws scope at turns c.loop-at.cost was.turns was.so_far le c.in_ok-cost.cost taken
          c.in_ok-turns.turns.items more;
      within = next_within s laws scope at turns c.loop-at.cost c.in_ok-cost.cost taken was.within;
      few = omega (arith, few);
    }

pub returns-clause-begins : goal.returns-clause-begins
returns-clause-begins g c =
    let s = g.S.TransitionSystem.system c.args.system.now in
    let scope = (scope_of c.args.limits.now.scope) in
    let begin : List ℕ = scope.begin in
    let past : length begin ≤ c.loop-at.at =
    omega (arith, c.loop-at-test.false, c.loop-at.auto.at-end, ap length c.as_slice-begin.ensures.value) in
    subst (λ (is : List ℕ). IsOnWay s scope is) (c.loop-at.invariant.turns ∙ take_all c.loop-at.at begin past)
    (on_way_of s scope c.loop-at.turns.items c.loop-at.cost c.loop-at.invariant.so_far)
