-- Facts about the first pieces of a path.
use Rattle.std.proofs.Common.{◌≡◌, ◌≢◌, ◌<◌, ◌+◌, ℕ, suc, List, [], ◌∷◌, ◌++◌, length, take, get_or, Bool, true, false, ◌||◌, refl, ap, sym, subst, ◌∙◌, arith, append_assoc, length-append}
use Rattle.std.specs.Prelude.{◌==◌, MatchBool}
use Rattle.std.specs.List.{list_any}
use Rattle.std.proofs.Math.Seq.{take-suc}
use Rattle.std.proofs.lemmas.Bool.{eqb-true, eqb-false}
use Rattle.std.proofs.Math.Bool.{or-true}
use Rattle.path_text.specs.Parts.{IsSeparated}
use Rattle.path_text.specs.Text.{ends_with_slash, is_empty, pieces}
use Rattle.path_text.specs.declared.name.TheConstants.{SLASH}
use Rattle.path_text.proofs.PlacesLemmas.{pieces_last, pieces_slash}

-- ---- what stands before a byte

-- a piece that is not at its end, behind what sets it off
pub record Within (bytes : List ℕ) : Type 0 where
  pub rest : List ℕ
  pub piece : List ℕ
  pub are : bytes ≡ rest ++ piece
  pub apart : IsSeparated rest
  pub some : is_empty piece ≡ false
  pub none : list_any (λ b. b == SLASH) piece ≡ false

abbrev pub Stands : Bool → List ℕ → Type 0
Stands free bytes = MatchBool free (IsSeparated bytes) (Within bytes)

ends_in : (xs : List ℕ) (b : ℕ) → ends_with_slash (xs ++ (b ∷ [])) ≡ (b == SLASH)
ends_in [] b = refl
ends_in (x ∷ []) b = refl
ends_in (x ∷ y ∷ xs) b = ends_in (y ∷ xs) b

ends_or_none : (xs : List ℕ) → ends_with_slash xs ≡ true → IsSeparated xs
ends_or_none xs is = ap (λ e. is_empty xs || e) is ∙ or-true (is_empty xs)

pub after_slash : (xs : List ℕ) (b : ℕ) → b ≡ SLASH
    → IsSeparated (xs ++ (b ∷ [])) × (pieces (xs ++ (b ∷ [])) ≡ pieces xs)
after_slash xs b is = (
  ends_or_none (xs ++ (b ∷ [])) (ends_in xs b ∙ ap (λ c. c == SLASH) is),
  ap (λ c. pieces (xs ++ (c ∷ []))) is ∙ pieces_slash xs,
)

no_slash : (b : ℕ) → b ≢ SLASH → list_any (λ c. c == SLASH) (b ∷ []) ≡ false
no_slash b other = grind (arith, other)

-- a piece begins
pub after_first : (xs : List ℕ) (b : ℕ) → b ≢ SLASH → IsSeparated xs
    → Within (xs ++ (b ∷ [])) × (length (pieces (xs ++ (b ∷ []))) ≡ length (pieces xs) + 1)
after_first xs b other apart = (
  record { rest = xs; piece = b ∷ []; are = refl; apart = apart; some = refl; none = no_slash b other },
  ap length (pieces_last xs (b ∷ []) apart refl (no_slash b other)) ∙ length-append (pieces xs) ((b ∷ []) ∷ []),
)

any_append : (xs : List ℕ) (b : ℕ) → list_any (λ c. c == SLASH) xs ≡ false → b ≢ SLASH
    → list_any (λ c. c == SLASH) (xs ++ (b ∷ [])) ≡ false
any_append [] b none other = no_slash b other
any_append (x ∷ xs) b none other = grind (arith, none, any_append xs b, other)

still_some : (xs : List ℕ) (b : ℕ) → is_empty (xs ++ (b ∷ [])) ≡ false
still_some [] b = refl
still_some (x ∷ xs) b = refl

-- it goes on
pub after_more : (xs : List ℕ) (b : ℕ) → b ≢ SLASH → Within xs
    → Within (xs ++ (b ∷ [])) × (length (pieces (xs ++ (b ∷ []))) ≡ length (pieces xs))
after_more xs b other w =
    let none = any_append w.piece b w.none other in
    let are : xs ++ (b ∷ []) ≡ w.rest ++ (w.piece ++ (b ∷ [])) =
    ap (λ ys. ys ++ (b ∷ [])) w.are ∙ append_assoc w.rest w.piece (b ∷ []) in
    let before : length (pieces xs) ≡ length (pieces w.rest) + 1 =
    ap (λ ys. length (pieces ys)) w.are
    ∙ ap length (pieces_last w.rest w.piece w.apart w.some w.none) ∙ length-append (pieces w.rest) (w.piece ∷ []) in (
      record { rest = w.rest; piece = w.piece ++ (b ∷ []); are = are; apart = w.apart; some = still_some w.piece b; none = none },
      ap (λ ys. length (pieces ys)) are
          ∙ ap length (pieces_last w.rest (w.piece ++ (b ∷ [])) w.apart (still_some w.piece b) none)
          ∙ length-append (pieces w.rest) ((w.piece ++ (b ∷ [])) ∷ []) ∙ sym before,
    )

-- ---- one byte more

-- so many pieces are counted, and it is known whether one is under way
abbrev pub Counted : List ℕ → ℕ → Bool → Type 0
Counted bytes count free = (count ≡ length (pieces bytes)) × Stands free bytes

on : (text : List ℕ) (at count : ℕ) (free : Bool) → at < length text
    → Counted (take at text ++ (get_or text at 0 ∷ [])) count free → Counted (take (at + 1) text) count free
on text at count free within done =
    let more : at + 1 ≡ suc at = omega arith in
    subst (λ bytes. Counted bytes count free) (sym (ap (λ n. take n text) more ∙ take-suc text at 0 within)) done

-- behind a slash nothing is under way, whatever was
pub slash_on : (text : List ℕ) (at count : ℕ) (slash : Bool) → at < length text → (get_or text at 0 == SLASH) ≡ slash
    → slash ≡ true → count ≡ length (pieces (take at text)) → Counted (take (at + 1) text) count slash
slash_on text at count slash within is so counted =
    let a = after_slash (take at text) (get_or text at 0) (eqb-true (get_or text at 0) SLASH (is ∙ so)) in
    subst (Counted (take (at + 1) text) count) (sym so) (on text at count true within (counted ∙ ap length (sym a.1), a.0))

pub first_on : (text : List ℕ) (at count : ℕ) (slash : Bool) → at < length text → (get_or text at 0 == SLASH) ≡ slash
    → slash ≡ false → IsSeparated (take at text) → count ≡ length (pieces (take at text))
    → Counted (take (at + 1) text) (count + 1) slash
first_on text at count slash within is so apart counted =
    let a = after_first (take at text) (get_or text at 0) (eqb-false (get_or text at 0) SLASH (is ∙ so)) apart in
    subst (Counted (take (at + 1) text) (count + 1)) (sym so)
    (on text at (count + 1) false within (ap (λ n. n + 1) counted ∙ sym a.1, a.0))

pub more_on : (text : List ℕ) (at count : ℕ) (slash : Bool) → at < length text → (get_or text at 0 == SLASH) ≡ slash
    → slash ≡ false → Within (take at text) → count ≡ length (pieces (take at text))
    → Counted (take (at + 1) text) count slash
more_on text at count slash within is so under counted =
    let a = after_more (take at text) (get_or text at 0) (eqb-false (get_or text at 0) SLASH (is ∙ so)) under in
    subst (Counted (take (at + 1) text) count) (sym so) (on text at count false within (counted ∙ sym a.1, a.0))

-- within a piece
pub under_on : (text : List ℕ) (at count : ℕ) (slash : Bool) → at < length text → (get_or text at 0 == SLASH) ≡ slash
    → Within (take at text) → count ≡ length (pieces (take at text)) → Counted (take (at + 1) text) count slash
under_on text at count true within is under counted = slash_on text at count true within is refl counted
under_on text at count false within is under counted = more_on text at count false within is refl under counted

pub stands_free : (free : Bool) (bytes : List ℕ) → free ≡ true → Stands free bytes → IsSeparated bytes
stands_free free bytes is stands = subst (λ f. Stands f bytes) is stands

pub stands_within : (free : Bool) (bytes : List ℕ) → free ≡ false → Stands free bytes → Within bytes
stands_within free bytes is stands = subst (λ f. Stands f bytes) is stands
