-- What the edges from the configurations of a layer come to, and the layer that they lead to.
use Rattle.std.specs.Prelude.{◌≡◌, ◌<◌, ◌≤◌, ◌+◌, ◌++◌, ℕ, suc, List, [], ◌∷◌, length, ◌==◌, Bool, true, false, not, Option, Some, slice_get, refl}
use Rattle.smallvec.specs.SmallVec.{SmallVec}
use Rattle.std.proofs.Common.{sym, ap, ◌∙◌, subst, arith, length-append, eq-eqb, eqb-true}
use Rattle.std.proofs.lemmas.Option.{same_Some, slice_get_within}
use Rattle.schedule_graph.specs.declared.graph.Edge.{Edge}
use Rattle.schedule_graph.specs.declared.graph.Node.{Node}
use Rattle.schedule_graph.specs.Words.{edge_of, AreApart}
use Rattle.schedule_graph.proofs.Leading.{own_edge}
use Rattle.layered_search.specs.declared.limits.Bounds.{Bounds}
use Rattle.layered_search.specs.declared.frontier.layer.Configuration.{Configuration}
use Rattle.layered_search.specs.declared.cost.Cost.{Cost}
use Rattle.layered_search.specs.declared.frontier.transitions.Transition.{Transition}
use Rattle.layered_search.specs.declared.frontier.transitions.Choice.{Choice}
use Rattle.layered_search.specs.System.{System, state_after}
use Rattle.layered_search.specs.Lists.{is_another, is_cut, plus}
use Rattle.layered_search.specs.Merged.{bounded_cuts}
use Rattle.layered_search.specs.Transitions.{AreChoices, AreAllChoices, AreLeads, Going, AreGone}
use Rattle.layered_search.specs.Points.{cost_after, AreWithin}
use Rattle.layered_search.specs.Layers.{LayerView, Leads, IsOn, AreOn, point_at, IsTransition, IsSuccessorConfiguration, AreJoined, AreEdgesBy, AreAllEdges, IsEdgeBy, IsPassed}
use Rattle.layered_search.specs.Spreading.{IsEdgeTo, AreEdgesTo, IsFitting, AreFit, AreEdgesOfAll, AreApartChoices, AreGraphNodesBy}
use Rattle.layered_search.proofs.Places.{within_some}
use Rattle.layered_search.proofs.Lists.Turning.{turn_within}
use Rattle.layered_search.proofs.Counts.Merges.{graph_nodes_are}

-- the count is another where it is one more
is_more : (b : Bool) (n : ℕ) → not (plus b n == n) ≡ b
is_more false n = ap not (eq-eqb n n refl)
is_more true n = by (suc n == n) refl
  where
    by : (b : Bool) → (suc n == n) ≡ b → not b ≡ true
    by true e = let q : suc n ≡ n = eqb-true (suc n) n e in absurd (omega (arith, q))
    by false e = refl

module _ {State : Type 0} (s : System State) (g : Going s) (lists : List (List ℕ)) (end_classes : List (Option ℕ))
    (places : List (SmallVec ℕ)) (classes : List (List ℕ)) (gone : AreGone s g lists end_classes places classes)
    (whole : length g.layer.lists ≤ length end_classes) (n : ℕ) (on : AreOn n g.layer)
    (choices : List (SmallVec Choice)) (are : AreAllChoices s g.bounds g.layer g.transitions choices) where
  -- a configuration with the list to its state, its choices, and the places of its transitions
  record IsSeen (t : ℕ) (configuration : Configuration) (those : SmallVec Choice) (row : SmallVec ℕ) : Type 0 where
    pub is : List ℕ
    pub there : slice_get g.layer.lists configuration.state ≡ Some is
    pub transitions : SmallVec Transition
    pub are_choices : AreChoices s g.bounds (point_at s is configuration) transitions.items those.items
    pub leads : AreLeads s is transitions.items lists row.items

  row_of : (t : ℕ) (configuration : Configuration) → slice_get g.layer.configurations t ≡ Some configuration
      → (row : SmallVec ℕ) × (slice_get places configuration.state ≡ Some row)
  row_of t configuration here =
      within_some places configuration.state
      (let lt = (on t configuration here).on in let e = gone.many in omega (arith, lt, e, whole))

  seen : (t : ℕ) (configuration : Configuration) (those : SmallVec Choice) (row : SmallVec ℕ)
      → slice_get g.layer.configurations t ≡ Some configuration → slice_get choices t ≡ Some those
      → slice_get places configuration.state ≡ Some row → IsSeen t configuration those row
  seen t configuration those row here chosen at =
      let lt = (on t configuration here).on in
      let list = within_some g.layer.lists configuration.state lt in
      let transitions = within_some g.transitions configuration.state
      (let e = g.listed.many in omega (arith, lt, e)) in
      record {
        is = list.0;
        there = list.1;
        transitions = transitions.0;
        are_choices = are.each t configuration list.0 transitions.0 those here list.1 transitions.1 chosen;
        leads = gone.leads configuration.state list.0 transitions.0 row list.1 transitions.1 at;
      }

  lead : (t : ℕ) (configuration : Configuration) (those : SmallVec Choice) (row : SmallVec ℕ)
      → (seen : IsSeen t configuration those row) → (j : ℕ) (choice : Choice) → slice_get those.items j ≡ Some choice
      → (to : ℕ) × ((slice_get row.items choice.at ≡ Some to) × Leads s seen.is choice.actor lists to)
  lead t configuration those row seen j choice there =
      let of = (seen.are_choices.each j choice there).transition in
      let by = seen.leads choice.at of.0 of.1.0 in
      (by.0, (by.1.0, subst (λ i. Leads s seen.is i lists by.0) of.1.1 by.1.1))

  pub fits : AreFit g.layer.configurations choices places
  fits t configuration those here chosen =
      let row = row_of t configuration here in
      let its = seen t configuration those row.0 here chosen row.1 in (
        row.0,
        (
          row.1,
          λ j choice there.
              let by = lead t configuration those row.0 its j choice there in
              slice_get_within row.0.items choice.at by.0 by.1.0,
        ),
      )

  pub choices_apart : AreApartChoices choices
  choices_apart t those j l choice other chosen here there same =
      let configuration = within_some g.layer.configurations t
      (let lt = slice_get_within choices t those chosen in let e = are.many in omega (arith, lt, e)) in
      let row = row_of t configuration.0 configuration.1 in
      (seen t configuration.0 those row.0 configuration.1 chosen row.1).are_choices.apart j l choice other here there
      same

  pub end_classes_there : (t : ℕ) (configuration : Configuration)
      → slice_get g.layer.configurations t ≡ Some configuration → configuration.state < length end_classes
  end_classes_there t configuration here = let lt = (on t configuration here).on in omega (arith, lt, whole)

  end_classes_many : length end_classes ≡ length g.layer.lists
  end_classes_many = let le = gone.fits in omega (arith, le, whole)

  module _ (next : List Configuration) (all : List (SmallVec Edge))
      (of : AreEdgesOfAll g.bounds g.layer.configurations choices places next all) where
    abbrev after : LayerView
    after = record { lists = lists; configurations = next }

    transition : (t : ℕ) (configuration : Configuration) (those : SmallVec Choice) (row : SmallVec ℕ)
        (seen : IsSeen t configuration those row) (j : ℕ) (choice : Choice) → slice_get those.items j ≡ Some choice
        → (state : ℕ) → slice_get row.items choice.at ≡ Some state → (m : ℕ) → m ≡ state
        → IsTransition s g.layer configuration.state choice.actor lists m
    transition t configuration those row seen j choice there state at m e =
        let by = lead t configuration those row seen j choice there in
        let same : by.0 ≡ m = same_Some by.0 state (sym by.1.0 ∙ at) ∙ sym e in
        record {
          from = seen.is;
          here = seen.there;
          leads = subst (λ x. Leads s seen.is choice.actor lists x) same by.1.1;
        }

    successor_configuration : (t : ℕ) (successor : Configuration) → slice_get next t ≡ Some successor
        → IsSuccessorConfiguration s g.bounds g.layer lists successor
    successor_configuration t successor there =
        let from = of.successor t successor there in
        let its = seen from.s from.configuration from.those from.row from.there from.chosen from.places_there in
        let by = from.is in
        let choice = its.are_choices.each by.at by.choice by.there in record {
          configuration = from.configuration;
          is = its.is;
          i = by.choice.actor;
          onward = record { at = from.s; there = from.there; on = its.there; may = choice.may };
          turns = by.is.turns;
          cost = by.is.cost ∙ choice.cost;
          transition = transition from.s from.configuration from.those from.row its by.at by.choice by.there by.state
              by.place successor.state by.is.on;
        }

    is_on : (t : ℕ) (successor : Configuration) → slice_get next t ≡ Some successor → IsOn (suc n) lists successor
    is_on t successor there =
        let is = successor_configuration t successor there in
        let before = on is.onward.at is.configuration is.onward.there in
        let up : n + 1 ≡ suc n = omega arith in
        let turns = is.configuration.turns.items in
        let more : length (turns ++ is.i ∷ []) ≡ length turns + 1 = length-append turns (is.i ∷ []) in
        record {
          on = slice_get_within lists successor.state is.transition.leads.to is.transition.leads.there;
          long = ap length is.turns ∙ (more ∙ (ap (λ m. m + 1) before.long ∙ up));
          few = subst (λ (cost : Cost). AreWithin cost (suc n)) (sym is.cost)
              (subst (λ m. AreWithin (cost_after s (state_after s is.is) is.configuration.cost is.i) m) up
              (turn_within s (point_at s is.is is.configuration) is.i n before.few));
        }

    after_joined : AreJoined s g.bounds g.layer after
    after_joined = record { lists = gone.successor; configurations = successor_configuration }

    -- ---- the edges from one configuration

    module _ (t : ℕ) (configuration : Configuration) (those : SmallVec Choice) (row : SmallVec ℕ)
        (edges : SmallVec Edge) (here : slice_get g.layer.configurations t ≡ Some configuration)
        (chosen : slice_get choices t ≡ Some those) (at : slice_get places configuration.state ≡ Some row)
        (there : slice_get all t ≡ Some edges) where
      abbrev its : IsSeen t configuration those row
      its = seen t configuration those row here chosen at

      to : AreEdgesTo g.bounds configuration those.items row.items next edges.items
      to = of.edges t configuration those row edges here chosen at there

      -- the edge of each choice
      edge_at : (j : ℕ) (choice : Choice) → slice_get those.items j ≡ Some choice
          → (edge : Edge) × ((slice_get edges.items j ≡ Some edge)
          × ((state : ℕ) × ((slice_get row.items choice.at ≡ Some state)
          × IsEdgeTo g.bounds configuration choice state next edge)))
      edge_at j choice c_there =
          let edge = within_some edges.items j
          (let lt = slice_get_within those.items j choice c_there in let e = to.many in omega (arith, lt, e)) in
          let by = lead t configuration those row its j choice c_there in
          (edge.0, (edge.1, (by.0, (by.1.0, to.each j choice by.0 edge.0 c_there by.1.0 edge.1))))

      choice_at : (j : ℕ) (edge : Edge) → slice_get edges.items j ≡ Some edge
          → (choice : Choice) × ((slice_get those.items j ≡ Some choice)
          × ((state : ℕ) × ((slice_get row.items choice.at ≡ Some state)
          × IsEdgeTo g.bounds configuration choice state next edge)))
      choice_at j edge w_there =
          let choice = within_some those.items j
          (let lt = slice_get_within edges.items j edge w_there in let e = to.many in omega (arith, lt, e)) in
          let by = lead t configuration those row its j choice.0 choice.1 in
          (choice.0, (choice.1, (by.0, (by.1.0, to.each j choice.0 by.0 edge choice.1 by.1.0 w_there))))

      apart : AreApart edges.items
      apart j l v w v_there w_there same =
          let c = choice_at j v v_there in
          let d = choice_at l w w_there in
          its.are_choices.apart j l c.0 d.0 c.1.0 d.1.0 (sym c.1.1.1.1.label ∙ (same ∙ d.1.1.1.1.label))

      edge_by : (j : ℕ) (edge : Edge) → slice_get edges.items j ≡ Some edge
          → IsEdgeBy s g.bounds g.layer after configuration its.is edge.label edge
      edge_by j edge w_there =
          let c = choice_at j edge w_there in
          let choice = c.0 in
          let own = its.are_choices.each j choice c.1.0 in
          let by = c.1.1.1.1 in
          let cost = configuration.cost in
          subst (λ i. IsEdgeBy s g.bounds g.layer after configuration its.is i edge) (sym by.label) (record {
            may = own.may;
            label = by.label;
            cut = by.cut ∙ (ap (λ (m : Cost). not (m.cuts == cost.cuts)) own.cost
                ∙ is_more (is_cut s (state_after s its.is) cost.last choice.actor) cost.cuts);
            change = by.change ∙ (ap (λ (m : Cost). not (m.changes == cost.changes)) own.cost
                ∙ is_more (is_another cost.last choice.actor) cost.changes);
            after = record {
              after = by.there.other;
              there = by.there.there;
              last = by.there.last ∙ ap (λ (m : Cost). m.last) own.cost;
              cuts = by.there.cuts ∙ ap (λ (m : Cost). bounded_cuts g.bounds.cuts m.cuts) own.cost;
              transition = transition t configuration those row its j choice c.1.0 c.1.1.0 c.1.1.1.0
                  by.there.other.state by.there.on;
            };
          })

      edges_by : AreEdgesBy s g.bounds g.layer after configuration its.is edges.items
      edges_by = record {
        all = λ i may.
            let chosen_one = its.are_choices.all i may in
            let edge = edge_at chosen_one.0 chosen_one.1.0 chosen_one.1.1.0 in
            let label : edge.0.label ≡ i = edge.1.1.1.1.label ∙ chosen_one.1.1.1 in
            let own = own_edge edges.items chosen_one.0 edge.0 apart edge.1.0 in
            (edge.0, ap (λ j. edge_of edges.items j) (sym label) ∙ own);
        each = edge_by;
        apart = apart;
      }

    after_edges : AreAllEdges s g.bounds g.layer after all
    after_edges = record {
      many = of.many;
      each = λ t configuration is edges here on_list there.
          let those = within_some choices t
          (let lt = slice_get_within g.layer.configurations t configuration here in
          let e = are.many in omega (arith, lt, e)) in
          let row = row_of t configuration here in
          let its = seen t configuration those.0 row.0 here those.1 row.1 in
          subst (λ (js : List ℕ). AreEdgesBy s g.bounds g.layer after configuration js edges.items)
          (same_Some its.is is (sym its.there ∙ on_list))
          (edges_by t configuration those.0 row.0 edges here those.1 row.1 there);
    }

    -- ---- the layer was passed

    module _ (graph_nodes : List Node)
        (nodes : AreGraphNodesBy g.layer.configurations end_classes all graph_nodes) where
      pub passed_by : IsPassed s g.bounds n g.layer after graph_nodes g.found classes
      passed_by = record {
        joined = after_joined;
        on = is_on;
        graph_nodes = graph_nodes_are s g.bounds g.layer after classes all end_classes graph_nodes after_edges
            (record { many = end_classes_many; each = gone.are_end_classes }) nodes.many nodes.each;
        keeps = gone.keeps;
        found = gone.are_found;
        apart = gone.apart;
      }

-- ---- edges that are apart, for their graph nodes

pub edges_apart : (bounds : Bounds) (configurations : List Configuration) (choices : List (SmallVec Choice))
    (places : List (SmallVec ℕ)) (next : List Configuration) (all : List (SmallVec Edge))
    → length choices ≡ length configurations → AreFit configurations choices places → AreApartChoices choices
    → AreEdgesOfAll bounds configurations choices places next all
    → (t : ℕ) (edges : SmallVec Edge) → slice_get all t ≡ Some edges → AreApart edges.items
edges_apart bounds configurations choices places next all many fit choices_are of t edges there j l v w v_there w_there
    same =
    let lt = slice_get_within all t edges there in
    let e = of.many in
    let configuration = within_some configurations t (omega (arith, lt, e)) in
    let those = within_some choices t (omega (arith, lt, e, many)) in
    let row = fit t configuration.0 those.0 configuration.1 those.1 in
    let to = of.edges t configuration.0 those.0 row.0 edges configuration.1 those.1 row.1.0 there in
    let c = choice_at configuration.0 those.0 row.0 edges to row.1.1 j v v_there in
    let d = choice_at configuration.0 those.0 row.0 edges to row.1.1 l w w_there in
    choices_are t those.0 j l c.0 d.0 those.1 c.1.0 d.1.0 (sym c.1.1 ∙ (same ∙ d.1.1))
  where
    choice_at : (configuration : Configuration) (those : SmallVec Choice) (row : SmallVec ℕ) (edges : SmallVec Edge)
        → AreEdgesTo bounds configuration those.items row.items next edges.items → IsFitting those.items row.items
        → (j : ℕ) (edge : Edge) → slice_get edges.items j ≡ Some edge
        → (choice : Choice) × ((slice_get those.items j ≡ Some choice) × (edge.label ≡ choice.actor))
    choice_at configuration those row edges to fitting j edge w_there =
        let choice = within_some those.items j
        (let lt = slice_get_within edges.items j edge w_there in let e = to.many in omega (arith, lt, e)) in
        let state = within_some row.items choice.0.at (fitting j choice.0 choice.1) in
        (choice.0, (choice.1, (to.each j choice.0 state.0 edge choice.1 state.1 w_there).label))
