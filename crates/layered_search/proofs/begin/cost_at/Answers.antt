use Rattle.layered_search.specs.Limits.{scope_of}
use Rattle.std.proofs.Common.{◌≡◌, ◌<◌, ◌∙◌, ℕ, List, length, sym, refl, false, arith}
use Rattle.std.specs.Prelude.{slice_get, Some}
use Rattle.std.proofs.lemmas.Bool.{true≢false}
use Rattle.std.proofs.lemmas.Option.{slice_get_read}
use Rattle.layered_search.specs.System.{state_after}
use Rattle.layered_search.proofs.Layers.Beginning.{idle_beyond, is_idle, begins_long, many_cuts}
use Rattle.layered_search.proofs.begin.cost_at.Goals as goal
use Rattle.layered_search.proofs.begin.cost_at.Goals.{then-actor-actors-via-then-actor-actors, then-actor-actors-via-else-actor-actors+then-not-is_busy}

pub returns-then-at-limits-clause-err : goal.returns-then-at-limits-clause-err
returns-then-at-limits-clause-err g c = λ is n e key so.
    let v = c.args.system.now in
    let scope = (scope_of c.args.limits.now.scope) in
    let lt : c.args.at < length scope.begin = c.requires.there in
    begins_long (g.S.TransitionSystem.system v) (g.S.TransitionSystem.is_system v) scope c.args.at is c.args.cost e so
    c.args.limits.now.turns (omega (arith, lt)) (omega (arith, c.if-at-limits.true))

pub returns-then-actor-actors-clause-err : goal.returns-then-actor-actors-clause-err
returns-then-actor-actors-clause-err g c = λ is n e key so.
    let v = c.args.system.now in
    let s = g.S.TransitionSystem.system v in
    let laws = g.S.TransitionSystem.is_system v in
    let scope = (scope_of c.args.limits.now.scope) in
    let begin : List ℕ = scope.begin in
    let actor : ℕ = c.index-actor.result.now in
    let there : slice_get begin c.args.at ≡ Some actor =
    slice_get_read begin (length begin) c.args.at actor refl c.requires.there c.index-actor.ensures in
    let many = c.actors.ensures c.args.memory.now n (state_after s is) key in
    let idle : s.is_busy (state_after s is) actor ≡ false =
    elim c.then-actor-actors.branch [
      | then-actor-actors-via-then-actor-actors w ↦
          idle_beyond s laws scope c.args.at is actor (omega (arith, w.if-actor-actors.true, many))
      | then-actor-actors-via-else-actor-actors+then-not-is_busy w ↦
          sym (w.is_busy.ensures n (state_after s is) key) ∙ w.if-not-is_busy.true
    ] in
    is_idle s laws scope c.args.at is actor e there idle

pub returns-then-not-is_within-clause-err : goal.returns-then-not-is_within-clause-err
returns-then-not-is_within-clause-err g c = λ is n e key so.
    let v = c.args.system.now in
    let s = g.S.TransitionSystem.system v in
    let scope = (scope_of c.args.limits.now.scope) in
    let begin : List ℕ = scope.begin in
    let actor : ℕ = c.index-actor.result.now in
    let there : slice_get begin c.args.at ≡ Some actor =
    slice_get_read begin (length begin) c.args.at actor refl c.requires.there c.index-actor.ensures in
    many_cuts s (g.S.TransitionSystem.is_system v) scope c.args.at is c.args.cost e so actor there
    c.cost_by-after.result (c.cost_by-after.ensures n (state_after s is) key)
    (λ few. true≢false (sym (c.is_within.ensures.1 few) ∙ c.if-not-is_within.true))

pub returns-clause-ok : goal.returns-clause-ok
returns-clause-ok g c = λ is n e key.
    let s = g.S.TransitionSystem.system c.args.system.now in
    let begin : List ℕ = c.args.limits.now.scope.begin.items in
    let actor : ℕ = c.index-actor.result.now in
    record {
      actor = actor;
      there = slice_get_read begin (length begin) c.args.at actor refl c.requires.there c.index-actor.ensures;
      busy = sym (c.is_busy.ensures n (state_after s is) key) ∙ c.if-not-is_busy.false;
      cost_is = c.cost_by-after.ensures n (state_after s is) key;
      few = c.is_within.ensures.0 c.if-not-is_within.false;
    }
