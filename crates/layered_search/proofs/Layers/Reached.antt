-- From each graph node of a graph that fits some word leads to an end.
use Rattle.layered_search.specs.Limits.{ScopeView}
use Rattle.std.specs.Prelude.{◌≡◌, ◌≤◌, ◌+◌, ℕ, zero, suc, List, [], ◌∷◌, Bool, true, false, ◌&&◌, length, Option, Some, None, refl}
use Rattle.std.specs.Global.{Vec}
use Rattle.std.proofs.Common.{sym, ap, ◌∙◌, subst, arith}
use Rattle.std.proofs.lemmas.Bool.{and_right}
use Rattle.std.proofs.lemmas.Bool.Decides.{nat_tests}
use Rattle.schedule_graph.specs.declared.graph.Node.{Node}
use Rattle.schedule_graph.specs.declared.graph.Node.TheVariants.{Ends, Goes}
use Rattle.schedule_graph.specs.Words.{node_at, edges_from, edge_of, IsWord, IsSomeWord}
use Rattle.schedule_graph.proofs.Leading.{layer_within}
use Rattle.layered_search.specs.declared.limits.Bounds.{Bounds}
use Rattle.layered_search.specs.System.{System, IsSystem, state_after}
use Rattle.layered_search.specs.Lists.{is_another, is_cut, plus}
use Rattle.layered_search.specs.Asked.{IsWithin, IsOnly}
use Rattle.layered_search.specs.Merged.{Place, Places, MayFollow, IsEdge, IsFit}

-- ---- some turn that cuts no call

own_turn : (j : ℕ) → is_another (Some j) j ≡ false
own_turn j = grind (arith, nat_tests)

-- where somebody has something left to do, after some turns, somebody may have the next turn, if it may be anybody's
pub may_some : {State : Type 0} (s : System State) → IsSystem s → (bounds : Bounds) (p : Place State) (is : List ℕ)
    → p.state ≡ state_after s is → bounds.only ≡ None → IsWithin bounds.cuts p.cuts
    → (i : ℕ) × (s.is_busy p.state i ≡ true) → (i : ℕ) × MayFollow s bounds p i
may_some {State} s laws bounds p is at free few somebody = by p.last refl
  where
    anybody : (i : ℕ) → IsOnly bounds.only i
    anybody i = subst (λ (only : Option ℕ). IsOnly only i) (sym free) tt

    outside : (j : ℕ) → s.is_busy p.state j ≡ false → s.is_within p.state j ≡ false
    outside j idle =
        subst (λ (v : State). s.is_within v j ≡ false) (sym at)
        (laws.idle_outside is j (subst (λ (v : State). s.is_busy v j ≡ false) at idle))

    uncut : (i : ℕ) → s.is_busy p.state i ≡ true → is_cut s p.state p.last i ≡ false → (i : ℕ) × MayFollow s bounds p i
    uncut i busy e = (
      i,
      record {
        only = anybody i;
        busy = busy;
        few = subst (λ (b : Bool). IsWithin bounds.cuts (plus b p.cuts)) (sym e) few;
      },
    )

    after : (j : ℕ) (b : Bool) → p.last ≡ Some j → s.is_busy p.state j ≡ b → (i : ℕ) × MayFollow s bounds p i
    after j true e busy =
        uncut j busy (ap (λ (last : Option ℕ). is_cut s p.state last j) e
        ∙ ap (λ (b : Bool). b && s.is_within p.state j) (own_turn j))
    after j false e idle =
        uncut somebody.0 somebody.1 (ap (λ (last : Option ℕ). is_cut s p.state last somebody.0) e
        ∙ and_right (is_another (Some j) somebody.0) (s.is_within p.state j) (outside j idle))

    by : (last : Option ℕ) → p.last ≡ last → (i : ℕ) × MayFollow s bounds p i
    by None e = uncut somebody.0 somebody.1 (ap (λ (last : Option ℕ). is_cut s p.state last somebody.0) e)
    by (Some j) e = after j (s.is_busy p.state j) e refl

-- ---- a word

module _ {State : Type 0} (s : System State) (scope : ScopeView) (layers : List (Vec Node)) (classes : List (List ℕ))
    (at : Places State) (fit : IsFit s scope layers classes at) where
  some_rest : (n k m : ℕ) (graph_node : Node) → length layers ≤ k + n → node_at layers k m ≡ Some graph_node
      → (is : List ℕ) × ((class : ℕ) × IsWord layers k m is class)
  some_rest zero k m graph_node le there =
      let lt = layer_within layers k m graph_node there in absurd (omega arith)
  some_rest (suc n) k m (Ends class) le there = ([], (class, there))
  some_rest (suc n) k m (Goes edges) le there =
      let here = fit.goes k m edges there in
      let i = here.some.0 in
      let edge = here.some.1 in
      let goes : IsEdge s scope layers at k m i edge.0 = here.each i edge.0 edge.1 in
      let rest = some_rest n (suc k) edge.0.to goes.graph_node (omega arith) goes.there in
      (i ∷ rest.0, (rest.1.0, (edge.0, (ap (λ (x : Option Node). edge_of (edges_from x) i) there ∙ edge.1, rest.1.1))))

  pub some_word : (is : List ℕ) × IsSomeWord layers is
  some_word = some_rest (length layers) 0 0 fit.graph_node (omega arith) fit.there
