-- The edges from the configurations of a layer, and the configurations that they lead to.
use Rattle.std.specs.Prelude.{◌≡◌, ◌⊎◌, ◌++◌, ℕ, List, [], ◌∷◌, length, slice_get, Some, refl}
use Rattle.smallvec.specs.SmallVec.{SmallVec}
use Rattle.std.proofs.Common.{inl, inr, ⊎_elim, sym, ap, ◌∙◌, subst}
use Rattle.std.proofs.lemmas.Option.{same_Some}
use Rattle.schedule_graph.specs.declared.graph.Edge.{Edge}
use Rattle.layered_search.specs.declared.limits.Bounds.{Bounds}
use Rattle.layered_search.specs.declared.frontier.layer.Configuration.{Configuration}
use Rattle.layered_search.specs.declared.cost.Cost.{Cost}
use Rattle.layered_search.specs.declared.frontier.transitions.Choice.{Choice}
use Rattle.layered_search.specs.Layers.{IsThere}
use Rattle.layered_search.specs.Distinct.{Keeps}
use Rattle.layered_search.specs.Spreading.{IsConfigurationBy, IsEdgeTo, AreEachEdge, AreEdgesTo, AreConfigurationsBy, AreConfigurationsFrom, AreFirstEdges}
use Rattle.layered_search.proofs.Places.{get_push, get_last}

-- ---- a configuration that is put last

pub pushed_there : (bounds : Bounds) (configuration : Configuration) (old new : List Configuration) (t : ℕ)
    → new ≡ old ++ configuration ∷ [] → t ≡ length old
    → IsThere bounds configuration.state configuration.cost new t
pushed_there bounds configuration old new t e q = record {
  other = configuration;
  there = ap (λ configurations. slice_get configurations t) e
      ∙ (ap (slice_get (old ++ configuration ∷ [])) q ∙ get_last old configuration);
  on = refl;
  last = refl;
  cuts = refl;
}

pub pushed_new : (configuration : Configuration) (old new : List Configuration) → new ≡ old ++ configuration ∷ []
    → (t : ℕ) (successor : Configuration) → slice_get new t ≡ Some successor
    → (slice_get old t ≡ Some successor) ⊎ (successor ≡ configuration)
pushed_new configuration old new e t successor there =
    ⊎_elim (λ was. inl was) (λ last. inr last.1) (get_push old configuration t successor
    (ap (λ configurations. slice_get configurations t) (sym e) ∙ there))

-- ---- the edges from a configuration

there_on : (bounds : Bounds) (state : ℕ) (cost : Cost) (old new : List Configuration) (t : ℕ) → Keeps old new
    → IsThere bounds state cost old t → IsThere bounds state cost new t
there_on bounds state cost old new t keeps is = record {
  other = is.other;
  there = keeps t is.other is.there;
  on = is.on;
  last = is.last;
  cuts = is.cuts;
}

edge_on : (bounds : Bounds) (configuration : Configuration) (choice : Choice) (state : ℕ)
    (old new : List Configuration) (edge : Edge) → Keeps old new → IsEdgeTo bounds configuration choice state old edge
    → IsEdgeTo bounds configuration choice state new edge
edge_on bounds configuration choice state old new edge keeps is = record {
  label = is.label;
  cut = is.cut;
  change = is.change;
  there = there_on bounds state choice.cost old new edge.to keeps is.there;
}

module _ (bounds : Bounds) (configuration : Configuration) (choices : List Choice) (places : List ℕ) where
  pub each_on : (old new : List Configuration) (edges : List Edge) → Keeps old new
      → AreEachEdge bounds configuration choices places old edges
      → AreEachEdge bounds configuration choices places new edges
  each_on old new edges keeps are k choice state edge here at there =
      edge_on bounds configuration choice state old new edge keeps (are k choice state edge here at there)

  pub each_more : (next : List Configuration) (edges more : List Edge) (n : ℕ) (choice : Choice) (state : ℕ)
      (edge : Edge) → length edges ≡ n → slice_get choices n ≡ Some choice
      → slice_get places choice.at ≡ Some state → IsEdgeTo bounds configuration choice state next edge
      → more ≡ edges ++ edge ∷ [] → AreEachEdge bounds configuration choices places next edges
      → AreEachEdge bounds configuration choices places next more
  each_more next edges more n choice state edge long here at own is are k c m w c_here m_at w_there = ⊎_elim
      (are k c m w c_here m_at)
      (λ last.
      let same : choice ≡ c = same_Some choice c (sym here ∙ (ap (slice_get choices) (sym (last.0 ∙ long)) ∙ c_here)) in
      let place : state ≡ m = same_Some state m (sym at ∙ (ap (λ (x : Choice). slice_get places x.at) same ∙ m_at)) in
      subst (λ (x : Edge). IsEdgeTo bounds configuration c m next x) (sym last.1)
      (subst (λ (x : Choice). IsEdgeTo bounds configuration x m next edge) same
      (subst (λ j. IsEdgeTo bounds configuration choice j next edge) place own)))
      (get_push edges edge k w (ap (λ (xs : List Edge). slice_get xs k) (sym is) ∙ w_there))

  pub configurations_more : (old mid new : List Configuration) (n : ℕ) (choice : Choice) (state : ℕ)
      → slice_get choices n ≡ Some choice → slice_get places choice.at ≡ Some state
      → ((t : ℕ) (successor : Configuration) → slice_get new t ≡ Some successor → (slice_get mid t ≡ Some successor)
      ⊎ IsConfigurationBy configuration choice state successor)
      → AreConfigurationsBy configuration choices places old mid
      → AreConfigurationsBy configuration choices places old new
  configurations_more old mid new n choice state here at own are t successor there = ⊎_elim (are t successor)
      (λ is. inr (record { at = n; choice = choice; there = here; state = state; place = at; is = is }))
      (own t successor there)

-- ---- the edges from all configurations

module _ (bounds : Bounds) (configurations : List Configuration) (choices : List (SmallVec Choice))
    (places : List (SmallVec ℕ)) where
  module _ (old new : List Configuration) (s : ℕ) (configuration : Configuration) (those : SmallVec Choice)
      (row : SmallVec ℕ) (here : slice_get configurations s ≡ Some configuration)
      (chosen : slice_get choices s ≡ Some those)
      (at : slice_get places configuration.state ≡ Some row) where
    pub from_more : AreConfigurationsBy configuration those.items row.items old new
        → AreConfigurationsFrom configurations choices places old
        → AreConfigurationsFrom configurations choices places new
    from_more own are t successor there = ⊎_elim (are t successor)
        (λ is. record {
          s = s;
          configuration = configuration;
          there = here;
          those = those;
          chosen = chosen;
          row = row;
          places_there = at;
          is = is;
        })
        (own t successor there)

    pub first_more : (all more : List (SmallVec Edge)) (edges : SmallVec Edge) → Keeps old new → length all ≡ s
        → AreEdgesTo bounds configuration those.items row.items new edges.items
        → more ≡ all ++ edges ∷ [] → AreFirstEdges bounds configurations choices places old all
        → AreFirstEdges bounds configurations choices places new more
    first_more all more edges keeps long own is are r st cs ps ws st_here cs_chosen ps_at ws_there = ⊎_elim
        (λ was. let before = are r st cs ps ws st_here cs_chosen ps_at was in
        record { many = before.many; each = each_on bounds st cs.items ps.items old new ws.items keeps before.each })
        (λ last.
        let e : r ≡ s = last.0 ∙ long in
        let same : configuration ≡ st = same_Some configuration st
        (sym here ∙ (ap (slice_get configurations) (sym e) ∙ st_here)) in
        let same_those : those ≡ cs = same_Some those cs (sym chosen ∙ (ap (slice_get choices) (sym e) ∙ cs_chosen)) in
        let same_row : row ≡ ps = same_Some row ps
        (sym at ∙ (ap (λ (x : Configuration). slice_get places x.state) same ∙ ps_at)) in
        subst (λ (v : SmallVec Edge). AreEdgesTo bounds st cs.items ps.items new v.items) (sym last.1)
        (subst (λ (x : Configuration). AreEdgesTo bounds x cs.items ps.items new edges.items) same
        (subst (λ (v : SmallVec Choice). AreEdgesTo bounds configuration v.items ps.items new edges.items) same_those
        (subst (λ (v : SmallVec ℕ). AreEdgesTo bounds configuration those.items v.items new edges.items) same_row
        own))))
        (get_push all edges r ws (ap (λ (xs : List (SmallVec Edge)). slice_get xs r) (sym is) ∙ ws_there))
