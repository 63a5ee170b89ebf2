-- Names found by their order are the same bytes, and a directory in which no name is found is empty.
use Rattle.std.proofs.Common.{◌≡◌, ◌↔◌, ℕ, Bool, true, List, [], ◌∷◌, length, Option, Some, None, refl, ap, sym, ◌∙◌, arith}
use Rattle.std.specs.Bool.{IsTrue}
use Rattle.std.specs.Option.{option_and_then}
use Rattle.std.specs.Cmp.Lexicographic.{bytes_decides, texts_ties, nat_list_cmp_total}
use Rattle.std.proofs.lemmas.Cmp.{eq_by_cmp_equiv}
use Rattle.std.proofs.lemmas.Map.Made.{nil_from_lookup}
use Rattle.std.specs.Map.{lookup}
use Rattle.tree_slab.specs.Directories.{is_name, entries_at, entry_in}

pub is_name-refl : (n : List ℕ) → is_name n n ≡ true
is_name-refl n = sym (texts_ties n n) ∙ (bytes_decides n n).1 refl

pub is_name-true : (n m : List ℕ) → is_name n m ≡ true → n ≡ m
is_name-true n m e = (bytes_decides n m).0 (texts_ties n m ∙ e)

none_found : (entries : List (List ℕ × ℕ)) → length entries ≡ 0 → (n : List ℕ) → lookup (is_name n) entries ≡ None
none_found [] none n = refl
none_found (entry ∷ entries) none n = absurd (omega arith)

pub empty_by_names : (directories : List (Option (List (List ℕ × ℕ)))) (d : ℕ) (entries : List (List ℕ × ℕ)) (empty : Bool)
    → entries_at directories d ≡ Some entries → (IsTrue empty ↔ (length entries ≡ 0)) → IsTrue empty ↔ ((n : List ℕ) → entry_in directories d n ≡ None)
empty_by_names directories d entries empty at decided = (
  λ e n. ap (option_and_then (λ found. lookup (is_name n) found)) at ∙ none_found entries (decided.0 e) n,
  λ none.
      let nothing : (n : List ℕ) → lookup (is_name n) entries ≡ None = λ n. sym (ap (option_and_then (λ found. lookup (is_name n) found)) at) ∙ none n in
      decided.1 (ap length (nil_from_lookup (eq_by_cmp_equiv nat_list_cmp_total) entries nothing)),
)
