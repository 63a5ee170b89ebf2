-- The pieces of a text: which of them are names, where the text has no NUL.
use Rattle.std.proofs.Common.{◌≡◌, ℕ, Bool, true, false, not, ◌==◌, ◌&&◌, ◌||◌, cond, List, [], ◌∷◌, refl, sym, ap, ◌∙◌, arith}
use Rattle.std.specs.List.{list_any, list_all, onto_first}
use Rattle.std.proofs.lemmas.Bool.{eqb-true}
use Rattle.path_text.specs.Name.{NUL, is_name}
use Rattle.path_text.specs.Text.{between_slashes}
use Rattle.path_text.specs.declared.name.TheConstants.{SLASH}
use Rattle.kernel_walks.specs.AtOnce.{fits_piece}

abbrev has_nul : List ℕ → Bool
has_nul bs = list_any (λ b. b == NUL) bs

abbrev has_slash : List ℕ → Bool
has_slash bs = list_any (λ b. b == SLASH) bs

abbrev is_plain : List ℕ → Bool
is_plain bs = not (has_slash bs)

-- ---- no piece has a slash

plain_first : (b : ℕ) (ps : List (List ℕ)) → (b == SLASH) ≡ false → list_all is_plain ps ≡ true
    → list_all is_plain (onto_first b ps) ≡ true
plain_first b [] s h = rw (s)
plain_first b (p ∷ ps) s h = rw (s) h

plain_step : (b : ℕ) (t : Bool) (ps : List (List ℕ)) → (b == SLASH) ≡ t → list_all is_plain ps ≡ true
    → list_all is_plain (cond t ([] ∷ ps) (onto_first b ps)) ≡ true
plain_step b true ps s h = h
plain_step b false ps s h = plain_first b ps s h

plain_between : (text : List ℕ) → list_all is_plain (between_slashes text) ≡ true
plain_between [] = refl
plain_between (b ∷ bs) = plain_step b (b == SLASH) (between_slashes bs) refl (plain_between bs)

-- ---- a text has NUL where a piece has

or_with : (x y z : Bool) → ((x || y) || z) ≡ (x || (y || z))
or_with true y z = refl
or_with false y z = refl

nul_first : (b : ℕ) (ps : List (List ℕ)) → list_any has_nul (onto_first b ps) ≡ ((b == NUL) || list_any has_nul ps)
nul_first b [] = or_with (b == NUL) false false
nul_first b (p ∷ ps) = or_with (b == NUL) (has_nul p) (list_any has_nul ps)

nul_step : (b : ℕ) (t : Bool) (ps : List (List ℕ)) → (b == SLASH) ≡ t
    → list_any has_nul (cond t ([] ∷ ps) (onto_first b ps)) ≡ ((b == NUL) || list_any has_nul ps)
nul_step b true ps s =
    ap (λ n. (n == NUL) || list_any has_nul ps) (sym (eqb-true b SLASH s))
nul_step b false ps s = nul_first b ps

nul_between : (text : List ℕ) → list_any has_nul (between_slashes text) ≡ has_nul text
nul_between [] = refl
nul_between (b ∷ bs) =
    nul_step b (b == SLASH) (between_slashes bs) refl ∙ ap (λ rest. (b == NUL) || rest) (nul_between bs)

-- ---- what a piece is

named : (p : List ℕ) → is_plain p ≡ true → (not (has_nul p) && fits_piece p) ≡ is_name p
named p plain = grind (arith, plain)

-- ---- all of them

both_ways : (n m x y : Bool) → (not (n || m) && (x && y)) ≡ ((not n && x) && (not m && y))
both_ways true m x y = refl
both_ways false true true y = refl
both_ways false true false y = refl
both_ways false false true y = refl
both_ways false false false y = refl

and_of : (x y : Bool) → (x && y) ≡ true → (x ≡ true) × (y ≡ true)
and_of true y h = (refl, h)
and_of false y h = cc (h)

all_of : (Fits Is : List ℕ → Bool) (ps : List (List ℕ))
    → ((p : List ℕ) → is_plain p ≡ true → (not (has_nul p) && Fits p) ≡ Is p) → list_all is_plain ps ≡ true
    → (not (list_any has_nul ps) && list_all Fits ps) ≡ list_all Is ps
all_of Fits Is [] each plain = refl
all_of Fits Is (p ∷ ps) each plain =
    let parts = and_of (is_plain p) (list_all is_plain ps) plain in
    both_ways (has_nul p) (list_any has_nul ps) (Fits p) (list_all Fits ps)
    ∙ ap (λ x. x && (not (list_any has_nul ps) && list_all Fits ps)) (each p parts.0)
    ∙ ap (λ x. Is p && x) (all_of Fits Is ps each parts.1)

pub all_named : (text : List ℕ)
    → (not (list_any (λ b. b == NUL) text) && list_all (fits_piece) (between_slashes text))
    ≡ list_all is_name (between_slashes text)
all_named text =
    ap (λ x. not x && list_all (fits_piece) (between_slashes text)) (sym (nul_between text))
    ∙ all_of (fits_piece) is_name (between_slashes text) named (plain_between text)

-- ---- by whether the text has NUL

pub none_has : (nul fit all : Bool) → (not nul && fit) ≡ all → nul ≡ false → fit ≡ all
none_has true fit all h none = cc (none)
none_has false fit all h none = h

pub one_has : (nul fit all : Bool) → (not nul && fit) ≡ all → nul ≡ true → not nul ≡ all
one_has true fit all h is = h
one_has false fit all h is = cc (is)
