-- Keys that are equal by their test are one.
use Rattle.std.proofs.Common.{◌≡◌, ℕ, Bool, true, false, List, refl, sym, ap, ◌∙◌, eqb-true, eq-eqb, nat_eq}
use Rattle.std.specs.Cmp.Lexicographic.{pointwise, same_text}
use Rattle.std.proofs.lemmas.Cmp.{nat_list_eq_equiv}
use Rattle.tree_slab.specs.Cache.{same_entry}
use Rattle.std.proofs.lemmas.Bool.{and_parts}

abbrev pub Key : Type 0
Key = ℕ × List ℕ

abbrev pub key : ℕ → List ℕ → Key
key d n = (d, n)

pub same_entry-true : (k l : Key) → same_entry k l ≡ true → k ≡ l
same_entry-true k l e =
    let both = and_parts (nat_eq k.0 l.0) (pointwise nat_eq k.1 l.1) e in
    λ i. (eqb-true k.0 l.0 both.0 i, same_text k.1 l.1 (sym both.1) i)

pub same_entry-refl : (k : Key) → same_entry k k ≡ true
same_entry-refl k = rw (eq-eqb k.0 k.0 refl, nat_list_eq_equiv.refl k.1) refl

pub same_entry-flips : (k l : Key) → same_entry k l ≡ same_entry l k
same_entry-flips k l = by (same_entry k l) (same_entry l k) refl refl
  where
    by : (a b : Bool) → same_entry k l ≡ a → same_entry l k ≡ b → a ≡ b
    by true true s t = refl
    by false false s t = refl
    by true false s t = sym (same_entry-refl l) ∙ ap (λ j. same_entry l j) (sym (same_entry-true k l s)) ∙ t
    by false true s t = sym s ∙ ap (λ j. same_entry k j) (same_entry-true l k t) ∙ same_entry-refl k
