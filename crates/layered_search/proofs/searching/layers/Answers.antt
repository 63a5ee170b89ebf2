use Rattle.layered_search.specs.Limits.{ScopeView, scope_of, limits_of}
use Rattle.std.proofs.Common.{◌≡◌, ◌+◌, [], suc, ℕ, List, ◌∙◌, sym, ap, subst, length, vec_len, ◌==◌, false, arith, rules}
use Rattle.std.proofs.lemmas.Bool.{true≢false, eqb-true}
use Rattle.std.proofs.lemmas.Option.{none-some}
use Rattle.std.specs.Global.{Vec}
use Rattle.std.proofs.lemmas.List.{nil_from_length}
use Rattle.schedule_graph.specs.declared.graph.Node.{Node}
use Rattle.layered_search.specs.declared.found.Found.{Found}
use Rattle.layered_search.specs.declared.limits.Bounds.{Bounds}
use Rattle.layered_search.specs.Asked.{WhyNot, bounds_at}
use Rattle.layered_search.specs.Found.{AreTold, found_of}
use Rattle.layered_search.specs.Kept.{layer_of, AreKept}
use Rattle.layered_search.specs.States.{IsCounted}
use Rattle.layered_search.specs.Layers.{LayerView, IsPassed, HasSearched}
use Rattle.layered_search.proofs.Places.{length_push}
use Rattle.layered_search.proofs.Layers.Kept.{first_is, first_kept}
use Rattle.layered_search.proofs.Layers.Passing.{passes, begun, first_on, last_on, some_left}
use Rattle.layered_search.proofs.Layers.States.{first_counted, all_states, left_long}
use Rattle.layered_search.proofs.searching.layers.Goals as goal
use Rattle.layered_search.proofs.searching.layers.Goals.{then-layers-test+else-depth-limits, else-layers-test}

pub layers-init : goal.layers-init
layers-init g c =
    let v = c.args.system.now in
    let s = g.S.TransitionSystem.system v in
    let k = g.S.TransitionSystem.keys v in
    let scope : ScopeView = (scope_of c.args.limits.now.scope) in
    let layer : LayerView = layer_of c.in_ok-layer.layer in
    let none : length c.args.graph.now ≡ 0 = ap length c.requires.graph in
    let first = first_is c.args.key c.in_ok-layer.layer c.in_ok-layer.ensures in record {
      searched =
          subst (λ (graph : List (Vec Node)). HasSearched s scope layer graph (found_of c.args.found.now.items))
          (sym c.requires.graph)
          (subst (λ (found : List (Found g.row.S-Outcome.Denot)). HasSearched s scope layer [] (found_of found))
          (sym c.requires.found) (begun s scope layer c.requires.begins first (first_on layer first)));
      kept = subst (λ n. AreKept s k c.args.memory.now n c.in_ok-layer.layer) (sym none)
          (first_kept c.args.key c.in_ok-layer.layer c.in_ok-layer.ensures s k c.args.memory.now c.requires.key
          c.requires.sound);
      told = subst (λ (found : List (Found g.row.S-Outcome.Denot)). AreTold s (g.S.TransitionSystem.outcomes v) found)
          (sym c.requires.found) (λ m one there. absurd (none-some one there));
      depth = omega (arith, none);
      short = omega (arith, none);
      states = c.requires.states;
      counted = subst (λ n. IsCounted s k c.args.memory.now scope n 1 c.in_ok-layer.layer) (sym none)
          (first_counted s scope k c.args.memory.now (g.S.TransitionSystem.are_keys v) c.counts_states.ensures
          c.args.key c.requires.key c.in_ok-layer.layer c.in_ok-layer.ensures);
    }

pub pass-requires-clause-on : goal.pass-requires-clause-on
pass-requires-clause-on g c =
    let s = g.S.TransitionSystem.system c.args.system.now in
    last_on s (scope_of c.args.limits.now.scope) (layer_of c.layers.layer) c.layers.graph (found_of c.layers.found.items)
    c.layers.invariant.searched

pub layers-preserved : goal.layers-preserved
layers-preserved g c =
    let v = c.args.system.now in
    let s = g.S.TransitionSystem.system v in
    let k = g.S.TransitionSystem.keys v in
    let scope : ScopeView = (scope_of c.args.limits.now.scope) in
    let n : ℕ = length c.layers.graph in
    let layer : LayerView = layer_of c.layers.layer in
    let next : LayerView = layer_of c.in_ok-next.next in
    let old : List (List ℕ) = found_of c.layers.found.items in
    let new : List (List ℕ) = found_of c.pass.new.found.items in
    let graph_nodes = c.in_ok-next.ensures.passed.0 in
    let graph = c.in_ok-next.ensures.passed.1.0 in
    let long : length c.pass.new.graph ≡ suc n = ap length graph ∙ length_push c.layers.graph graph_nodes in
    let up : n + 1 ≡ length c.pass.new.graph = omega (arith, long) in
    let bounds = c.bounds-bounds.ensures ∙ ap (λ j. bounds_at scope j) c.depth-in-layers.ensures in
    let passed : IsPassed s (bounds_at scope n) n layer next graph_nodes.items old new =
    subst (λ (b : Bounds). IsPassed s b n layer next graph_nodes.items old new) bounds
    c.in_ok-next.ensures.passed.1.1 in
    let room = c.in_ok-next.ensures.room in record {
      searched =
          subst (λ (gs : List (Vec Node)). HasSearched s scope next gs new) (sym graph)
          (passes s scope layer next c.layers.graph graph_nodes old new c.layers.invariant.searched passed);
      kept = subst (λ j. AreKept s k c.pass.new.memory j c.in_ok-next.next) up c.in_ok-next.ensures.kept;
      told = c.in_ok-next.ensures.told;
      depth = omega (arith, long, c.if-depth-limits.true, c.depth.ensures);
      short = omega (arith, long, c.if-depth-limits.true, c.depth.ensures);
      states = omega (arith, room, c.layers.invariant.states);
      counted =
          subst (λ j. IsCounted s k c.pass.new.memory scope j (c.layers.states + c.in_ok-next.more) c.in_ok-next.next)
          up (c.in_ok-next.ensures.counted scope c.layers.states bounds c.layers.invariant.counted);
    }

pub returns-in_err-next-clause-err : goal.returns-in_err-next-clause-err
returns-in_err-next-clause-err g c =
    let s = g.S.TransitionSystem.system c.args.system.now in
    let bounds = c.bounds-bounds.ensures ∙ ap (λ j. bounds_at (scope_of c.args.limits.now.scope) j) c.depth-in-layers.ensures in
    let few = c.layers.invariant.states in
    let why : WhyNot s (limits_of c.args.limits.now) c.in_err-next.field-0.0 =
    c.in_err-next.ensures.err (limits_of c.args.limits.now) c.layers.states bounds c.layers.invariant.counted
    (omega (arith, few)) in
    search rules

pub returns-clause-err : goal.returns-clause-err
returns-clause-err g c =
    let v = c.args.system.now in
    let s = g.S.TransitionSystem.system v in
    let k = g.S.TransitionSystem.keys v in
    let scope : ScopeView = (scope_of c.args.limits.now.scope) in
    let some : (vec_len c.layers.layer.configurations == 0) ≡ false = sym c.is_empty-2.ensures ∙ c.if-is_empty.false in
    let configuration = some_left c.layers.layer.configurations.items
    (subst (λ n. (n == 0) ≡ false) c.layers.layer.configurations.ok.0 some) in
    left_long s scope k c.layers.memory (length c.layers.graph) c.layers.states c.args.limits.now.turns c.layers.layer
    configuration.0 configuration.1
    (last_on s scope (layer_of c.layers.layer) c.layers.graph (found_of c.layers.found.items)
    c.layers.invariant.searched) c.layers.invariant.counted
    (elim c.layers-test.branch [
      | then-layers-test+else-depth-limits t ↦ omega (arith, t.depth.ensures, t.if-depth-limits.false)
      | else-layers-test t ↦ absurd (true≢false (sym t.layers-test.false ∙ (c.is_empty.ensures ∙ some)))
    ])

pub returns-then-is_empty-clause-searched : goal.returns-then-is_empty-clause-searched
returns-then-is_empty-clause-searched g c =
    let over : vec_len c.layers.layer.configurations ≡ 0 =
    eqb-true (vec_len c.layers.layer.configurations) 0 (sym c.is_empty-2.ensures ∙ c.if-is_empty.true) in (
      layer_of c.layers.layer,
      (
        nil_from_length c.layers.layer.configurations.items (sym c.layers.layer.configurations.ok.0 ∙ over),
        c.layers.invariant.searched,
      ),
    )

pub returns-then-is_empty-clause-counted : goal.returns-then-is_empty-clause-counted
returns-then-is_empty-clause-counted g c =
    let v = c.args.system.now in
    let over : vec_len c.layers.layer.configurations ≡ 0 =
    eqb-true (vec_len c.layers.layer.configurations) 0 (sym c.is_empty-2.ensures ∙ c.if-is_empty.true) in
    all_states (g.S.TransitionSystem.system v) (scope_of c.args.limits.now.scope) (g.S.TransitionSystem.keys v) c.layers.memory
    (length c.layers.graph) c.layers.states c.layers.layer
    (nil_from_length c.layers.layer.configurations.items (sym c.layers.layer.configurations.ok.0 ∙ over))
    c.layers.invariant.counted
