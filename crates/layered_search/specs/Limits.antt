-- What a search is asked for, as values.
use Rattle.std.specs.Prelude.{ℕ, List, Option}
use Rattle.layered_search.specs.declared.limits.Scope.{Scope}
use Rattle.layered_search.specs.declared.limits.Limits.{Limits}

-- only the lists with at most so many cuts, if there is a bound, and that begin with these turns
pub record ScopeView : Type 0 where
  pub cuts : Option ℕ
  pub begin : List ℕ

-- the most states, the most turns of a list, and which lists
pub record LimitsView : Type 0 where
  pub states : ℕ
  pub turns : ℕ
  pub scope : ScopeView

abbrev pub scope_of : Scope → ScopeView
scope_of scope = record { cuts = scope.cuts; begin = scope.begin.items }

abbrev pub limits_of : Limits → LimitsView
limits_of limits = record { states = limits.states; turns = limits.turns; scope = scope_of limits.scope }
