-- The counts where no handle is open.
use Rattle.std.proofs.Common.{◌≡◌, ℕ, zero, suc, nat_eq, get_or, replicate, refl, ap}
use Rattle.std.specs.HashMap.{HashMap, get, IsEmpty}
use Rattle.std.specs.Map.{count_at, lookup}
use Rattle.std.specs.Option.{unwrap_or}
use Rattle.tree_slab.specs.Counts.{count_in}

zeros : (n a d : ℕ) → d ≡ 0 → get_or (replicate n 0) a d ≡ 0
zeros zero a d none = none
zeros (suc n) zero d none = refl
zeros (suc n) (suc a) d none = zeros n a d none

pub zeros_counted : {S : Type 0} (n : ℕ) (high : HashMap ℕ ℕ S) → IsEmpty high → (a : ℕ) → count_in (replicate n 0) high a ≡ 0
zeros_counted n high empty a = zeros n a (count_at (get nat_eq high) a) (ap (λ entries. unwrap_or (lookup (nat_eq a) entries) 0) empty)
