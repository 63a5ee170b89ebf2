use Rattle.std.proofs.Common.{◌≡◌, ◌<◌, ◌^◌, ◌⊎◌, ◌++◌, ◌∷◌, [], ℕ, List, sym, subst, length}
use Rattle.std.specs.Prelude.{slice_get, Some}
use Rattle.std.proofs.lemmas.Result.{IfOk-weaker}
use Rattle.layered_search.specs.declared.frontier.layer.Visited.{Visited}
use Rattle.layered_search.specs.System.{Follows, state_after}
use Rattle.layered_search.specs.Marked.{IsPut}
use Rattle.layered_search.proofs.Layers.Going.{is_taken}
use Rattle.layered_search.proofs.frontier.passing.place_after.Goals as goal

pub next-requires-clause-few : goal.next-requires-clause-few
next-requires-clause-few g c =
    subst (λ (xs : List ℕ). length xs < 2 ^ 40) (sym c.as_slice-turns.ensures) c.requires.can.short

pub next-requires-clause-here : goal.next-requires-clause-here
next-requires-clause-here g c =
    let s = g.S.TransitionSystem.system c.args.system.now in
    let k = g.S.TransitionSystem.keys c.args.system.now in
    subst (λ (xs : List ℕ). k.IsKey c.args.memory.now (length xs) (state_after s xs) c.args.visited.now.key)
    (sym c.as_slice-turns.ensures) c.requires.can.here

pub returns-clause-taken : goal.returns-clause-taken
returns-clause-taken g c =
    let v = c.args.system.now in
    let s = g.S.TransitionSystem.system v in
    let k = g.S.TransitionSystem.keys v in
    let visited = c.args.visited.now in
    let key = c.in_ok-key.key in
    let old = c.args.known.now.states.items in
    let next = c.put.new.known.states.items in
    let put = subst (λ (turns : List ℕ). (m : ℕ) (one : Visited g.row.S-Key.Denot) → slice_get next m ≡ Some one
    → (slice_get old m ≡ Some one) ⊎ IsPut key (turns ++ c.args.actor ∷ []) one) c.as_slice.ensures c.put.ensures.new in
    let follows = subst (λ (turns : List ℕ).
    Follows s k c.args.memory.now c.next.new.memory (length turns) visited.key c.args.actor key)
    c.as_slice-turns.ensures c.in_ok-key.ensures.follows in
    IfOk-weaker c.put.result _ _
    (λ at found. is_taken s k (g.S.TransitionSystem.are_keys v) visited c.args.configuration.now c.args.actor
    c.args.memory.now c.next.new.memory old next at key follows put c.in_ok-key.ensures.sound
    c.in_ok-key.ensures.grows c.put.ensures.keeps found)
    c.put.ensures.there
