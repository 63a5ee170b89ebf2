-- When a layered graph stands for all schedules: each of its nodes for lists of turns that lead to states that are
-- alike.
use Rattle.std.specs.Prelude.{◌≡◌, ℕ, suc, List, true, slice_get, Option, Some, None}
use Rattle.std.specs.Global.{Vec}
use Rattle.smallvec.specs.SmallVec.{SmallVec}
use Rattle.schedule_graph.specs.declared.graph.Edge.{Edge}
use Rattle.schedule_graph.specs.declared.graph.Node.{Node}
use Rattle.schedule_graph.specs.declared.graph.Node.TheVariants.{Ends, Goes}
use Rattle.schedule_graph.specs.Words.{node_at, edge_of, IsWordOf}
use Rattle.schedule_graph.specs.Words as words
use Rattle.layered_search.specs.declared.limits.Bounds.{Bounds}
use Rattle.layered_search.specs.Limits.{ScopeView}
use Rattle.layered_search.specs.System.{System, state_after}
use Rattle.layered_search.specs.Lists.{is_another, is_cut, plus, cuts, changes, IsOver, AreBusy}
use Rattle.layered_search.specs.Asked.{IsWithin, IsAsked, IsOnly, bounds_at, AgreeIn}

-- the state that a graph node is for, whose turn came last there, and how many cuts came before, where they are bounded
pub record Place (State : Type 0) : Type 0 where
  pub state : State
  pub last : Option ℕ
  pub cuts : ℕ

-- what each graph node of a layer is for
abbrev pub Places : Type 0 → Type 0
Places State = ℕ → ℕ → Place State

-- the cuts that are counted: without a bound none are
abbrev pub bounded_cuts : Option ℕ → ℕ → ℕ
bounded_cuts None n = 0
bounded_cuts (Some scope) n = n

module _ {State : Type 0} (s : System State) where
  abbrev pub begins : Place State
  begins = record { state = s.begin; last = None; cuts = 0 }

  abbrev pub cuts_with : Place State → ℕ → ℕ
  cuts_with p i = plus (is_cut s p.state p.last i) p.cuts

  -- the actor has something left to do there, its turn leaves the cuts within the bound, and it may be that actor's
  pub record MayFollow (bounds : Bounds) (p : Place State) (i : ℕ) : Type 0 where
    pub only : IsOnly bounds.only i
    pub busy : s.is_busy p.state i ≡ true
    pub few : IsWithin bounds.cuts (cuts_with p i)

  -- the place after the actor's turn: of a state like that one
  pub record IsNextPlace (scope : ScopeView) (p : Place State) (i : ℕ) (q : Place State) : Type 0 where
    pub state : s.Alike (s.turn p.state i) q.state
    pub last : q.last ≡ Some i
    pub cuts : q.cuts ≡ bounded_cuts scope.cuts (cuts_with p i)

  -- the edge is the actor's turn, and leads to the graph node of the place after it
  pub record IsEdge (scope : ScopeView) (layers : List (Vec Node)) (at : Places State) (k m i : ℕ)
      (edge : Edge) : Type 0 where
    pub may : MayFollow (bounds_at scope k) (at k m) i
    pub cut : edge.cut ≡ is_cut s (at k m).state (at k m).last i
    pub change : edge.change ≡ is_another (at k m).last i
    pub graph_node : Node
    pub there : node_at layers (suc k) edge.to ≡ Some graph_node
    pub next : IsNextPlace scope (at k m) i (at (suc k) edge.to)

  -- somebody has something left to do there; the edges are the turns of all who may have the next one, and there is one
  pub record AreEdges (scope : ScopeView) (layers : List (Vec Node)) (at : Places State) (k m : ℕ)
      (edges : List Edge) : Type 0 where
    pub busy : (i : ℕ) × (s.is_busy (at k m).state i ≡ true)
    pub some : (i : ℕ) × ((edge : Edge) × (edge_of edges i ≡ Some edge))
    pub all : (i : ℕ) → MayFollow (bounds_at scope k) (at k m) i → (edge : Edge) × (edge_of edges i ≡ Some edge)
    pub each : (i : ℕ) (edge : Edge) → edge_of edges i ≡ Some edge → IsEdge scope layers at k m i edge

  -- nobody has anything left to do there, and it agrees with the end of the class's list
  pub record IsEndOf (classes : List (List ℕ)) (p : Place State) (class : ℕ) : Type 0 where
    pub over : IsOver s p.state
    pub found : List ℕ
    pub there : slice_get classes class ≡ Some found
    pub agrees : s.Agree p.state (state_after s found)

  -- The graph's nodes are for these places, from the beginning on. The turns that all lists begin with are of actors
  -- who have something left to do then. Of each class some list is known.
  pub record IsFit (scope : ScopeView) (layers : List (Vec Node)) (classes : List (List ℕ)) (at : Places State)
      : Type 0 where
    pub start : at 0 0 ≡ begins
    pub can_begin : AreBusy s s.begin scope.begin
    pub graph_node : Node
    pub there : node_at layers 0 0 ≡ Some graph_node
    pub ends : (k m class : ℕ) → node_at layers k m ≡ Some (Ends class) → IsEndOf classes (at k m) class
    pub goes : (k m : ℕ) (edges : SmallVec Edge) → node_at layers k m ≡ Some (Goes edges)
        → AreEdges scope layers at k m edges.items

  -- ---- the law

  -- that word of the graph is asked for, leads to the outcome of its class, and counts as the list does
  pub record IsListOf (scope : ScopeView) (layers : List (Vec Node)) (classes : List (List ℕ)) (class : ℕ)
      (is : List ℕ) : Type 0 where
    pub asked : IsAsked s scope is
    pub found : List ℕ
    pub there : slice_get classes class ≡ Some found
    pub agrees : AgreeIn s is found
    pub cuts : words.cuts layers 0 0 is ≡ cuts s is
    pub changes : words.changes layers 0 0 is ≡ changes is

  -- The words of a graph that fits are the lists that are asked for.
  abbrev pub WordsAreLists : Type 0
  WordsAreLists = (scope : ScopeView) (layers : List (Vec Node)) (classes : List (List ℕ)) (at : Places State)
      → IsFit scope layers classes at
      → ((is : List ℕ) → IsAsked s scope is → (class : ℕ) × IsWordOf layers class is)
      × ((is : List ℕ) (class : ℕ) → IsWordOf layers class is → IsListOf scope layers classes class is)
