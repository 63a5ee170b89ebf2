-- What is held where one was closed.
use Rattle.std.proofs.Common.{◌≡◌, ℕ, [], ◌∷◌, ◌++◌, Bool, true, false, refl, ap, sym, arith}
use Rattle.std.specs.Prelude.{◌==◌, if◌then◌else◌}
use Rattle.std.proofs.lemmas.Bool.{eqb-true}
use Rattle.system_calls.specs.Held.{without}

without_one : (same : Bool) (v a : ℕ) → (v == a) ≡ same → (if same then a ∷ [] else v ∷ []) ≡ v ∷ []
without_one true v a is = ap (λ n. n ∷ []) (sym (eqb-true v a is))
without_one false v a is = refl

without_itself : (a : ℕ) → without a (a ∷ []) ≡ []
without_itself a = grind arith

pub without_held : (holds : Bool) (v a : ℕ)
    → without a ((if holds then v ∷ [] else []) ++ (a ∷ [])) ≡ (if holds then v ∷ [] else [])
without_held true v a = grind (arith, without_itself a, without_one (v == a) v a refl)
without_held false v a = without_itself a
