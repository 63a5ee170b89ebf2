-- A list without its longest tail that rises.
use Rattle.std.proofs.Common.{◌≡◌, ℕ, zero, suc, Bool, true, false, List, [], ◌∷◌, take, drop, refl, sym, ap, ◌∙◌}
use Rattle.std.specs.Prelude.{◌&&◌, if◌then◌else◌}
use Rattle.outcome_text.specs.Schedule.{begins_to_rise, rises, without_tail}
use Rattle.std.proofs.lemmas.Bool.{and_parts}

-- a list rises from a place on where it begins to, and does from the next on
pub rises_from : (list : List ℕ) (k : ℕ) → begins_to_rise (drop k list) ≡ true → rises (drop (suc k) list) ≡ true → rises (drop k list) ≡ true
rises_from [] zero begins rest = refl
rises_from [] (suc k) begins rest = refl
rises_from (i ∷ is) zero begins rest = by (begins_to_rise (i ∷ is)) (rises is) begins rest
  where
    by : (a b : Bool) → a ≡ true → b ≡ true → (a && b) ≡ true
    by true true x y = refl
    by true false x y = y
    by false b x y = x
rises_from (i ∷ is) (suc k) begins rest = rises_from is k begins rest

-- what rises does so from each place on
tail_rises : (list : List ℕ) (k : ℕ) → rises list ≡ true → rises (drop k list) ≡ true
tail_rises [] zero e = refl
tail_rises [] (suc k) e = refl
tail_rises (i ∷ is) zero e = e
tail_rises (i ∷ is) (suc k) e = tail_rises is k (and_parts (begins_to_rise (i ∷ is)) (rises is) e).1

-- of what rises nothing is left
pub none_left : (list : List ℕ) → rises list ≡ true → [] ≡ without_tail list
none_left [] e = refl
none_left (i ∷ is) e = sym (ap (λ (b : Bool). if b then [] else i ∷ without_tail is) e)

-- the list ends where it stops to rise, seen from behind
pub left_before : (list : List ℕ) (k : ℕ) → begins_to_rise (drop k list) ≡ false → rises (drop (suc k) list) ≡ true → take (suc k) list ≡ without_tail list
left_before [] zero stops rest = absurd (cc)
left_before [] (suc k) stops rest = absurd (cc)
left_before (i ∷ is) zero stops rest =
    ap (λ xs. i ∷ xs) (none_left is rest) ∙ sym (ap (λ (b : Bool). if (b && rises is) then [] else i ∷ without_tail is) stops)
left_before (i ∷ is) (suc k) stops rest = by (rises (i ∷ is)) refl (left_before is k stops rest)
  where
    never : (b : Bool) → b ≡ true → b ≡ false → ⊥
    never b x y = cc (x, y)

    stays : (xs : List ℕ) → begins_to_rise xs ≡ false → rises xs ≡ false
    stays [] e = e
    stays (j ∷ js) e = ap (λ (b : Bool). b && rises js) e

    by : (b : Bool) → rises (i ∷ is) ≡ b → take (suc k) is ≡ without_tail is → take (suc (suc k)) (i ∷ is) ≡ without_tail (i ∷ is)
    by true e shorter =
        absurd (never (rises (drop k is)) (tail_rises is k (and_parts (begins_to_rise (i ∷ is)) (rises is) e).1) (stays (drop k is) stops))
    by false e shorter = ap (λ xs. i ∷ xs) shorter ∙ sym (ap (λ (b : Bool). if b then [] else i ∷ without_tail is) e)
