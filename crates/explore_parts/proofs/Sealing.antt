-- What stands where in a line that ends with a digest.
use Rattle.std.proofs.Common.{◌≡◌, ℕ, ◌+◌, Bool, false, List, ◌++◌, length, take, drop, refl, sym, ap, ◌∙◌, arith, length-append}
use Rattle.std.specs.Prelude.{codes}
use Rattle.std.proofs.lemmas.Bool.{true≢false}
use Rattle.std.proofs.lemmas.List.{take_at, drop_at}
use Rattle.std.proofs.lemmas.Slice.Eq.{bytes_eq-Decides}
use Rattle.path_text.specs.Name.{same_bytes}
use Rattle.explore_parts.specs.Seal.{with_sum}

module _ (line body sum end : List ℕ) (long : ℕ) (digits : length sum ≡ 64) (is : line ≡ with_sum body sum)
    (from : end ≡ drop long line) (rest : long + 74 ≡ length line) where
  counted : (a b c d e : ℕ) → a + 74 ≡ b → b ≡ c + d → d ≡ 8 + e → e ≡ 64 + 2 → c ≡ a
  counted a b c d e p q r s = omega arith

  own : length body ≡ long
  own = counted long (length line) (length body) (length (codes ",\"sum\":\"" ++ (sum ++ codes "\"}"))) (length (sum ++ codes "\"}")) rest
      (ap length is ∙ length-append body (codes ",\"sum\":\"" ++ (sum ++ codes "\"}"))) (length-append (codes ",\"sum\":\"") (sum ++ codes "\"}"))
      (length-append sum (codes "\"}") ∙ ap (λ (n : ℕ). n + 2) digits)

  end_is : end ≡ codes ",\"sum\":\"" ++ (sum ++ codes "\"}")
  end_is = from ∙ ap (λ (bs : List ℕ). drop long bs) is ∙ drop_at body (codes ",\"sum\":\"" ++ (sum ++ codes "\"}")) long own

  -- so what stands before the digest is what has to
  pub before_is : (before : List ℕ) (same : Bool) → before ≡ take 8 end → same ≡ same_bytes before (codes ",\"sum\":\"") → same ≡ false → ⊥
  before_is before same b t f =
      true≢false (sym ((bytes_eq-Decides before (codes ",\"sum\":\"")).1
      (b ∙ ap (λ (bs : List ℕ). take 8 bs) end_is ∙ take_at (codes ",\"sum\":\"") (sum ++ codes "\"}") 8 refl)) ∙ (sym t ∙ f))

  -- and so is what stands behind it
  pub behind_is : (after behind : List ℕ) (same : Bool) → after ≡ drop 8 end → behind ≡ drop 64 after → same ≡ same_bytes behind (codes "\"}")
      → same ≡ false → ⊥
  behind_is after behind same a b t f =
      true≢false (sym ((bytes_eq-Decides behind (codes "\"}")).1
      (b ∙ ap (λ (bs : List ℕ). drop 64 bs)
      (a ∙ ap (λ (bs : List ℕ). drop 8 bs) end_is ∙ drop_at (codes ",\"sum\":\"") (sum ++ codes "\"}") 8 refl)
      ∙ drop_at sum (codes "\"}") 64 digits)) ∙ (sym t ∙ f))
