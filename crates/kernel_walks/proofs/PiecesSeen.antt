-- The pieces of a text that were seen to fit, one after another.
use Rattle.std.proofs.Common.{◌≡◌, ℕ, ◌+◌, ◌<◌, ◌≤◌, true, false, not, Bool, List, [], ◌∷◌, ◌++◌, length, get_or, take, refl, ap, sym, ◌∙◌, arith}
use Rattle.std.specs.List.{list_all}
use Rattle.std.proofs.lemmas.Bool.{le-ltb, lt-ltb}
use Rattle.std.proofs.lemmas.List.{take_more, take_all}
use Rattle.std.proofs.lemmas.List.Folds.{list_all-append, list_all_at}
use Rattle.path_text.specs.declared.name.TheConstants.{NAME_MAX}
use Rattle.kernel_walks.specs.Followed.{is_short}

-- one that doesn't
pub one_other : (fits : List ℕ → Bool) (ps : List (List ℕ)) (i : ℕ) (p : List ℕ) → (i < length ps) × (p ≡ get_or ps i p)
    → fits p ≡ false → false ≡ list_all fits ps
one_other fits ps i p h none = sym (list_all_at fits ps i p h.0 (rw (← h.1) none))

-- one more
pub one_piece_more : (fits : List ℕ → Bool) (ps : List (List ℕ)) (i j : ℕ) (p : List ℕ)
    → (i < length ps) × (p ≡ get_or ps i p) → j ≡ i + 1 → list_all fits (take i ps) ≡ true → fits p ≡ true
    → list_all fits (take j ps) ≡ true
one_piece_more fits ps i j p h count so_far is =
    rw (count) (ap (list_all fits) (take_more ps i p h.0 ∙ ap (λ x. take i ps ++ x ∷ []) (sym h.1))
    ∙ list_all-append fits (take i ps) (p ∷ []) ∙ rw (so_far, is) refl)

-- all of them
pub all_pieces : (fits : List ℕ → Bool) (ps : List (List ℕ)) (i : ℕ) → list_all fits (take i ps) ≡ true → i ≡ length ps
    → true ≡ list_all fits ps
all_pieces fits ps i so_far count = sym (ap (list_all fits) (sym (take_all i ps (omega (arith, count)))) ∙ so_far)

-- ---- how long one is

pub long_piece : (p : List ℕ) → NAME_MAX < length p → is_short p ≡ false
long_piece p h = ap not (lt-ltb NAME_MAX (length p) h)

pub short_piece : (p : List ℕ) → length p ≤ NAME_MAX → is_short p ≡ true
short_piece p h = ap not (le-ltb NAME_MAX (length p) h)
