-- A node that names lead to is led to by them for good while entries are added.
use Rattle.std.proofs.Common.{◌≡◌, ℕ, suc, Bool, true, false, not, List, [], ◌∷◌, ◌++◌, length, Option, Some, None, Ok, Err, refl, sym, subst, cond}
use Rattle.std.specs.Prelude.{is_some, nat_le}
use Rattle.std.proofs.lemmas.Option.{none-some}
use Rattle.path_text.specs.declared.errno.Errno.TheVariants.{NotFound, Exists, NotDir, TooMany}
use Rattle.tree_model.specs.declared.inode.Inode.{Inode}
use Rattle.tree_model.specs.declared.inode.Object.{Object}
use Rattle.tree_model.specs.declared.tree.TheConstants.{NUMBERS_MAX}
use Rattle.tree_model.specs.State.{TOP, child, child_from, is_at, is_dir, is_gone}
use Rattle.tree_model.specs.Entries.{with_some, makes}
use Rattle.tree_model.proofs.Refusals.{refuse_if-both}
use Rattle.tree_model.proofs.Changed.{IfDone}
use Rattle.tree_list.specs.Build.{node_at, way, StandsIn}
use Rattle.tree_list.proofs.Built.{done}

still_found : (b : Bool) (k : ℕ) (o p : Option ℕ) (c : ℕ) → (o ≡ Some c → p ≡ Some c) → cond b (Some k) o ≡ Some c → cond b (Some k) p ≡ Some c
still_found true k o p c on e = e
still_found false k o p c on e = on e

child_from-append : (k : ℕ) (nodes more : List Inode) (d : ℕ) (n : List ℕ) (c : ℕ) → child_from k nodes d n ≡ Some c → child_from k (nodes ++ more) d n ≡ Some c
child_from-append k [] more d n c e = absurd (none-some c e)
child_from-append k (inode ∷ nodes) more d n c e =
    still_found (is_at d n inode.place) k (child_from (suc k) nodes d n) (child_from (suc k) (nodes ++ more) d n) c
    (λ later. child_from-append (suc k) nodes more d n c later) e

-- the same below the next name
below : (nodes more : List Inode) (x : ℕ) (n : List ℕ) (names : List (List ℕ)) (d : ℕ) (o : Option ℕ) → child nodes x n ≡ o
    → ((c : ℕ) → node_at nodes c names ≡ Some d → node_at (nodes ++ more) c names ≡ Some d)
    → with_some o None (λ c. node_at nodes c names) ≡ Some d
    → with_some (child (nodes ++ more) x n) None (λ c. node_at (nodes ++ more) c names) ≡ Some d
below nodes more x n names d None q later e = absurd (none-some d e)
below nodes more x n names d (Some c) q later e = rw (child_from-append 0 nodes more x n c q) (later c e)

node_at-append : (nodes more : List Inode) (x : ℕ) (names : List (List ℕ)) (d : ℕ) → node_at nodes x names ≡ Some d → node_at (nodes ++ more) x names ≡ Some d
node_at-append nodes more x [] d e = e
node_at-append nodes more x (n ∷ names) d e =
    below nodes more x n names d (child nodes x n) refl (λ c. node_at-append nodes more c names d) e

-- nodes with more of them at the end
abbrev IsLonger : List Inode → List Inode → Type 0
IsLonger nodes new = (more : List Inode) × (new ≡ nodes ++ more)

makes-longer : (nodes : List Inode) (d : ℕ) (n : List ℕ) (object : Object) → IfDone (IsLonger nodes) (makes nodes d n object)
makes-longer nodes d n object =
    refuse_if-both (IfDone (IsLonger nodes)) (not (is_dir nodes d)) (Err NotDir) _ tt (λ _.
    refuse_if-both (IfDone (IsLonger nodes)) (is_gone nodes d) (Err NotFound) _ tt (λ _.
    refuse_if-both (IfDone (IsLonger nodes)) (is_some (child nodes d n)) (Err Exists) _ tt (λ _.
    refuse_if-both (IfDone (IsLonger nodes)) (nat_le NUMBERS_MAX (length nodes)) (Err TooMany) _ tt (λ _. (_, refl)))))

pub stands_in-lasts : (nodes new : List Inode) (names : List (List ℕ)) (dir d : ℕ) (n : List ℕ) (object : Object) → StandsIn nodes names dir → makes nodes d n object ≡ Ok new → StandsIn new names dir
stands_in-lasts nodes new names dir d n object stands made =
    let longer = done (IsLonger nodes) (makes nodes d n object) new made (makes-longer nodes d n object) in
    subst (λ all. StandsIn all names dir) (sym longer.1) (node_at-append nodes longer.0 TOP (way names) dir stands)
