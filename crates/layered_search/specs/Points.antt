-- A list of turns under way: how far it has come, and who may have the next turn.
use Rattle.std.specs.Prelude.{◌≡◌, ◌≤◌, ℕ, List, [], ◌∷◌, true, Some, None}
use Rattle.layered_search.specs.declared.limits.Bounds.{Bounds}
use Rattle.layered_search.specs.declared.cost.Cost.{Cost}
use Rattle.layered_search.specs.System.{System}
use Rattle.layered_search.specs.Lists.{is_another, is_cut, plus}
use Rattle.layered_search.specs.Asked.{IsWithin, IsOnly}

-- a state after some turns, and what counted in them
pub record Point (State : Type 0) : Type 0 where
  pub state : State
  pub cost : Cost

abbrev pub no_cost : Cost
no_cost = record { last = None; cuts = 0; changes = 0 }

-- neither of the two counts is more than that
pub record AreWithin (cost : Cost) (n : ℕ) : Type 0 where
  pub cuts : cost.cuts ≤ n
  pub changes : cost.changes ≤ n

module _ {State : Type 0} (s : System State) where
  abbrev pub cost_after : State → Cost → ℕ → Cost
  cost_after v cost i = record {
    last = Some i;
    cuts = plus (is_cut s v cost.last i) cost.cuts;
    changes = plus (is_another cost.last i) cost.changes;
  }

  abbrev pub start : Point State
  start = record { state = s.begin; cost = no_cost }

  abbrev pub onward : Point State → ℕ → Point State
  onward p i = record { state = s.turn p.state i; cost = cost_after p.state p.cost i }

  -- after these turns
  abbrev pub along : Point State → List ℕ → Point State
  along p [] = p
  along p (i ∷ is) = along (onward p i) is

  -- ---- who may have the next turn

  -- has something left to do, the turn leaves the cuts within the bound, and it may be that actor's
  pub record MayGo (bounds : Bounds) (p : Point State) (i : ℕ) : Type 0 where
    pub only : IsOnly bounds.only i
    pub busy : s.is_busy p.state i ≡ true
    pub few : IsWithin bounds.cuts (cost_after p.state p.cost i).cuts
