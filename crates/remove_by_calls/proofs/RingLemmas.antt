-- The numbers of the places that are kept follow one another.
use Rattle.std.proofs.Common.{◌≡◌, ℕ, zero, suc, ◌+◌, ◌-◌, ◌%◌, ◌<◌, List, ◌∷◌, Bool, true, false, ◌||◌, if◌then◌else◌, refl, ap, subst, ◌∙◌, arith}
use Rattle.std.specs.Prelude.{◌==◌}
use Rattle.std.proofs.lemmas.Bool.{eq-eqb, ne_eqb, or_from}
use Rattle.system_calls.specs.Held.{without}
use Rattle.dialogue.specs.Holds.{is_in}
use Rattle.remove_by_calls.specs.Promises.{ring}

-- no number further on is kept, while there are 16 in all
free_further : (first count more : ℕ) → count + more < 16
    → is_in ((first + (count + more)) % 16) (ring first count) ≡ false
free_further first zero more fits = refl
free_further first (suc count) more fits =
    or_from (((first + count) % 16) == ((first + (suc count + more)) % 16))
    (is_in ((first + (suc count + more)) % 16) (ring first count))
    (ne_eqb ((first + count) % 16) ((first + (suc count + more)) % 16) (λ same. omega arith))
    (subst (λ n. is_in ((first + n) % 16) (ring first count) ≡ false) (omega arith)
    (free_further first count (suc more) (omega arith)))

pub free_ring : (first count : ℕ) → count < 16 → is_in ((first + count) % 16) (ring first count) ≡ false
free_ring first count fits =
    subst (λ n. is_in ((first + n) % 16) (ring first count) ≡ false) (omega arith)
    (free_further first count 0 (omega arith))

-- what is left without the outermost one
other : (b : Bool) (x y : List ℕ) → b ≡ false → (if b then x else y) ≡ y
other b x y h = ap (λ (c : Bool). if c then x else y) h

chosen : (b : Bool) (x y : List ℕ) → b ≡ true → (if b then x else y) ≡ x
chosen b x y h = ap (λ (c : Bool). if c then x else y) h

pub without_outer : (first count : ℕ) → count < 16
    → without (first % 16) (ring first (suc count)) ≡ ring ((first + 1) % 16) count
without_outer first zero fits =
    chosen (((first + 0) % 16) == (first % 16)) (ring first 0)
    (((first + 0) % 16) ∷ without (first % 16) (ring first 0)) (eq-eqb ((first + 0) % 16) (first % 16) (omega arith))
without_outer first (suc count) fits =
    other (((first + suc count) % 16) == (first % 16)) (ring first (suc count))
    (((first + suc count) % 16) ∷ without (first % 16) (ring first (suc count)))
    (ne_eqb ((first + suc count) % 16) (first % 16) (λ same. omega arith))
    ∙ (ap (λ n. n ∷ without (first % 16) (ring first (suc count))) (omega arith)
    ∙ ap (λ (l : List ℕ). (((first + 1) % 16 + count) % 16) ∷ l) (without_outer first count (omega arith)))

or_second : (b c : Bool) → c ≡ true → (b || c) ≡ true
or_second true c h = refl
or_second false c h = h

pub outer_in : (first count : ℕ) → is_in (first % 16) (ring first (suc count)) ≡ true
outer_in first zero =
    ap (λ b. b || false) (eq-eqb ((first + 0) % 16) (first % 16) (omega arith))
outer_in first (suc count) =
    or_second (((first + suc count) % 16) == (first % 16)) (is_in (first % 16) (ring first (suc count)))
    (outer_in first count)
