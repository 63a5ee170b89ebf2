-- The cost after one turn more.
use Rattle.std.specs.Prelude.{◌≤◌, ℕ, ◌+◌, Bool, true, false}
use Rattle.std.proofs.Common.{arith}
use Rattle.layered_search.specs.System.{System}
use Rattle.layered_search.specs.Lists.{plus, is_cut, is_another}
use Rattle.layered_search.specs.Points.{Point, onward, AreWithin}

plus_few : (b : Bool) (m n : ℕ) → m ≤ n → plus b m ≤ n + 1
plus_few true m n le = omega arith
plus_few false m n le = omega arith

module _ {State : Type 0} (s : System State) where
  pub turn_within : (p : Point State) (i n : ℕ) → AreWithin p.cost n → AreWithin (onward s p i).cost (n + 1)
  turn_within p i n within = record {
    cuts = plus_few (is_cut s p.state p.cost.last i) p.cost.cuts n within.cuts;
    changes = plus_few (is_another p.cost.last i) p.cost.changes n within.changes;
  }
