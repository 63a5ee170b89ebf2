-- The way down from the top to an entry's parent, by names.
use Rattle.std.proofs.Common.{◌≡◌, ◌≢◌, ℕ, zero, suc, ◌+◌, ◌<◌, List, [], ◌∷◌, ◌++◌, drop, take, Some, None, refl, sym, ap, ◌∙◌, arith}
use Rattle.std.proofs.lemmas.Option.{same_Some}
use Rattle.std.specs.Prelude.{slice_get}
use Rattle.tree_model.specs.declared.inode.Inode.{Inode}
use Rattle.tree_model.specs.State.{child}
use Rattle.tree_steps.proofs.Ways.{drop_from_get}
use Rattle.tree_list.specs.Build.{node_at}

pub node_at_missing : (nodes : List Inode) (x : ℕ) (names : List (List ℕ)) (i : ℕ) (n : List ℕ) → slice_get names i ≡ Some n → child nodes x n ≡ None → node_at nodes x (drop i names) ≡ None
node_at_missing nodes x names i n is none = rw (drop_from_get names i n is, none) refl

pub node_at_enters : (nodes : List Inode) (x c : ℕ) (names : List (List ℕ)) (i : ℕ) (n : List ℕ) → slice_get names i ≡ Some n → child nodes x n ≡ Some c → node_at nodes x (drop i names) ≡ node_at nodes c (drop (i + 1) names)
node_at_enters nodes x c names i n is found = rw (drop_from_get names i n is, found) refl

-- the names before a place
pub slice_get-take : {A : Type 0} (n : ℕ) (xs : List A) (i : ℕ) → i < n → slice_get (take n xs) i ≡ slice_get xs i
slice_get-take zero xs i less = absurd (omega arith)
slice_get-take (suc n) [] i less = refl
slice_get-take (suc n) (x ∷ xs) zero less = refl
slice_get-take (suc n) (x ∷ xs) (suc i) less = slice_get-take n xs i (omega arith)

take_from_get : {A : Type 0} (xs : List A) (i : ℕ) (x : A) → slice_get xs i ≡ Some x → take (i + 1) xs ≡ take i xs ++ x ∷ []
take_from_get [] i x is = cc
take_from_get (y ∷ xs) zero x is = let same : y ≡ x = cc in ap (λ z. z ∷ []) same
take_from_get (y ∷ xs) (suc i) x is =
    let next : suc i + 1 ≡ suc (i + 1) = omega arith in rw next (ap (λ rest. y ∷ rest) (take_from_get xs i x is))

-- the same names up to the next
pub same_names_more : (names others : List (List ℕ)) (i : ℕ) (n m : List ℕ) → slice_get names i ≡ Some n → slice_get others i ≡ Some m → n ≡ m → take i names ≡ take i others
    → take (i + 1) names ≡ take (i + 1) others
same_names_more names others i n m is there same before =
    rw (take_from_get names i n is, take_from_get others i m there, before, same) refl

-- a name by which two ways differ
pub ways_part : (names others : List (List ℕ)) (last i : ℕ) (n m : List ℕ) → slice_get names i ≡ Some n → slice_get others i ≡ Some m → i < last → n ≢ m → take last names ≢ take last others
ways_part names others last i n m is there before apart same =
    apart (same_Some n m (sym is ∙ sym (slice_get-take last names i before) ∙ ap (λ way. slice_get way i) same ∙ slice_get-take last others i before ∙ there))
