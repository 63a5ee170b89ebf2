-- Facts about lists, and about texts that are laid one after another.
use Rattle.std.proofs.Common.{◌≡◌, ℕ, zero, suc, ◌+◌, ◌<◌, List, [], ◌∷◌, ◌++◌, length, take, drop, refl, sym, ap, ◌∙◌, arith, length-append, append_assoc, Bool, true, false, subst, get_or}
use Rattle.std.specs.Prelude.{slice_set, slice_get, Some}
use Rattle.std.proofs.Math.Seq.{take-append_seam}
use Rattle.std.proofs.lemmas.Slice.{drop-append-drop}
use Rattle.std.specs.List.{onto_first, slice_split}
use Rattle.std.proofs.lemmas.List.Splits.{slice_split-cons_yes, slice_split-cons_no}
use Rattle.std.proofs.lemmas.Option.{none-some, slice_get-get_or}
use Rattle.path_text.specs.declared.name.TheConstants.{SLASH}
use Rattle.path_text.specs.Print.{after_slashes, printed}

-- a write keeps the length
pub length-slice_set : {A : Type 0} (xs : List A) (i : ℕ) (x : A) → length (slice_set xs i x) ≡ length xs
length-slice_set [] i x = refl
length-slice_set (y ∷ ys) zero x = refl
length-slice_set (y ∷ ys) (suc i) x = ap suc (length-slice_set ys i x)

-- an element stays where it is among more
pub slice_get-append : {A : Type 0} (xs ys : List A) (i : ℕ) (x : A) → slice_get xs i ≡ Some x → slice_get (xs ++ ys) i ≡ Some x
slice_get-append [] ys i x e = absurd (none-some x e)
slice_get-append (y ∷ xs) ys zero x e = e
slice_get-append (y ∷ xs) ys (suc i) x e = slice_get-append xs ys i x e

pub slice_get-last : {A : Type 0} (xs : List A) (y : A) → slice_get (xs ++ y ∷ []) (length xs) ≡ Some y
slice_get-last [] y = refl
slice_get-last (x ∷ xs) y = slice_get-last xs y

pub slice_get-some : {A : Type 0} (xs : List A) (at : ℕ) → at < length xs → (x : A) × (slice_get xs at ≡ Some x)
slice_get-some [] at h = absurd (omega arith)
slice_get-some (x ∷ xs) at h = (get_or (x ∷ xs) at x, slice_get-get_or (x ∷ xs) at x h)

pub length-one_more : {A : Type 0} (xs : List A) (y : A) → length (xs ++ y ∷ []) ≡ suc (length xs)
length-one_more [] y = refl
length-one_more (x ∷ xs) y = ap suc (length-one_more xs y)

-- there is a first element
pub record HasFirst (parts : List (List ℕ)) : Type 0 where
  pub first : List ℕ
  pub more : List (List ℕ)
  pub is : parts ≡ first ∷ more

onto_has_first : (b : ℕ) (parts : List (List ℕ)) → HasFirst parts → HasFirst (onto_first b parts)
onto_has_first b parts has = record { first = b ∷ has.first; more = has.more; is = ap (onto_first b) has.is }

pub has_first : (p : ℕ → Bool) (bytes : List ℕ) → HasFirst (slice_split p bytes)
has_first p [] = record { first = []; more = []; is = refl }
has_first p (b ∷ bytes) =
    elim (p b) as (λ t. p b ≡ t → HasFirst (slice_split p (b ∷ bytes))) [
      | true ↦ λ is. record { first = []; more = slice_split p bytes; is = slice_split-cons_yes p b bytes is }
      | false ↦ λ is. subst HasFirst (sym (slice_split-cons_no p b bytes is)) (onto_has_first b _ (has_first p bytes))
    ] refl

-- bytes are laid right after a text that lies at a room's beginning
pub put : (text bytes old room new : List ℕ) (at : ℕ) → at ≡ length text → room ≡ text ++ drop (length text) old
    → new ≡ take at room ++ (bytes ++ drop (at + length bytes) room) → new ≡ (text ++ bytes) ++ drop (length (text ++ bytes)) old
put text bytes old room new at is before laid =
    laid ∙ ap (λ (r : List ℕ). take at r ++ (bytes ++ drop (at + length bytes) r)) before
    ∙ ap (λ (k : ℕ). take k (text ++ drop (length text) old) ++ (bytes ++ drop (k + length bytes) (text ++ drop (length text) old))) is
    ∙ ap (λ (l : List ℕ). l ++ (bytes ++ drop (length text + length bytes) (text ++ drop (length text) old))) (take-append_seam text (drop (length text) old))
    ∙ ap (λ (l : List ℕ). text ++ (bytes ++ l)) (drop-append-drop (length text) old text (length text + length bytes) (omega arith) refl)
    ∙ sym (append_assoc text bytes (drop (length text + length bytes) old))
    ∙ ap (λ (k : ℕ). (text ++ bytes) ++ drop k old) (sym (length-append text bytes))

-- names after slashes

pub slashes-append : (xs ys : List (List ℕ)) → after_slashes (xs ++ ys) ≡ after_slashes xs ++ after_slashes ys
slashes-append [] ys = refl
slashes-append (x ∷ xs) ys =
    ap (λ (l : List ℕ). SLASH ∷ l) (ap (λ (l : List ℕ). x ++ l) (slashes-append xs ys) ∙ sym (append_assoc x (after_slashes xs) (after_slashes ys)))

pub printed_some : (names : List (List ℕ)) → 0 < length names → printed names ≡ after_slashes names
printed_some [] some = absurd (omega (arith, some))
printed_some (name ∷ names) some = refl
