-- The way down from the top by names.
use Rattle.std.proofs.Common.{◌≡◌, ℕ, zero, suc, ◌+◌, List, [], ◌∷◌, drop, true, false, Some, None, Err, ap, refl, arith}
use Rattle.std.specs.Prelude.{slice_get}
use Rattle.path_text.specs.declared.errno.Errno.TheVariants.{NotFound, NotDir}
use Rattle.tree_model.specs.declared.inode.Inode.{Inode}
use Rattle.tree_model.specs.State.{child, is_dir}
use Rattle.tree_model.specs.Steps.{directory_at}

pub drop_from_get : {A : Type 0} (xs : List A) (i : ℕ) (x : A) → slice_get xs i ≡ Some x → drop i xs ≡ x ∷ drop (i + 1) xs
drop_from_get [] i x is = cc
drop_from_get (y ∷ xs) zero x is = let same : y ≡ x = cc in ap (λ z. z ∷ xs) same
drop_from_get (y ∷ xs) (suc i) x is =
    let next : suc i + 1 ≡ suc (i + 1) = omega arith in rw next (drop_from_get xs i x is)

pub directory_at_no_directory : (nodes : List Inode) (x : ℕ) (names : List (List ℕ)) → is_dir nodes x ≡ false → directory_at nodes x names ≡ Err NotDir
directory_at_no_directory nodes x [] none = rw none refl
directory_at_no_directory nodes x (n ∷ names) none = rw none refl

pub directory_at_missing : (nodes : List Inode) (x : ℕ) (names : List (List ℕ)) (i : ℕ) (n : List ℕ) → slice_get names i ≡ Some n → is_dir nodes x ≡ true → child nodes x n ≡ None → directory_at nodes x (drop i names) ≡ Err NotFound
directory_at_missing nodes x names i n is dir none = rw (drop_from_get names i n is, dir, none) refl

pub directory_at_enters : (nodes : List Inode) (x c : ℕ) (names : List (List ℕ)) (i : ℕ) (n : List ℕ) → slice_get names i ≡ Some n → is_dir nodes x ≡ true → child nodes x n ≡ Some c → directory_at nodes x (drop i names) ≡ directory_at nodes c (drop (i + 1) names)
directory_at_enters nodes x c names i n is dir found = rw (drop_from_get names i n is, dir, found) refl

pub ruleset ways = (directory_at_no_directory, directory_at_missing, directory_at_enters)
