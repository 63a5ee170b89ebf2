-- Of the descriptors that are open, those that were opened last.
use Rattle.std.proofs.Common.{◌≡◌, ℕ, List, ◌∷◌, Bool, true, false, ◌||◌, if◌then◌else◌, refl, sym, ap, ◌∙◌}
use Rattle.std.specs.Prelude.{◌==◌}
use Rattle.std.proofs.lemmas.Bool.{eq-eqb, eqb-true}
use Rattle.system_calls.specs.Held.{without}
use Rattle.dialogue.specs.Holds.{is_in}

pub same : (n : ℕ) → (n == n) ≡ true
same n = eq-eqb n n refl

pub first_in : (fd : ℕ) (xs : List ℕ) → is_in fd (fd ∷ xs) ≡ true
first_in fd xs = rw (same fd) refl

pub second_in : (fd x : ℕ) (xs : List ℕ) → is_in fd (x ∷ fd ∷ xs) ≡ true
second_in fd x xs = by_case (x == fd)
  where
    by_case : (b : Bool) → (b || is_in fd (fd ∷ xs)) ≡ true
    by_case true = refl
    by_case false = first_in fd xs

pub without_first : (fd : ℕ) (xs : List ℕ) → without fd (fd ∷ xs) ≡ xs
without_first fd xs = rw (same fd) refl

pub without_second : (fd x : ℕ) (xs : List ℕ) → without fd (x ∷ fd ∷ xs) ≡ x ∷ xs
without_second fd x xs = by_case (x == fd) refl
  where
    by_case : (b : Bool) → (x == fd) ≡ b → (if b then fd ∷ xs else x ∷ without fd (fd ∷ xs)) ≡ x ∷ xs
    by_case true is = ap (λ y. y ∷ xs) (sym (eqb-true x fd is))
    by_case false is = ap (λ ys. x ∷ ys) (without_first fd xs)

-- of what is open alone, or was opened last
pub in_by : (fd : ℕ) (held rest : List ℕ) → held ≡ fd ∷ rest → is_in fd held ≡ true
in_by fd held rest h = ap (is_in fd) h ∙ first_in fd rest

pub out_by : (fd : ℕ) (held rest : List ℕ) → held ≡ fd ∷ rest → without fd held ≡ rest
out_by fd held rest h = ap (without fd) h ∙ without_first fd rest
