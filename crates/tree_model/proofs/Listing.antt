-- The names of a directory's entries, as they stand in the nodes and as List puts them in order.
use Rattle.std.proofs.Common.{◌≡◌, ◌≢◌, ℕ, zero, suc, Bool, true, false, ◌==◌, cond, List, [], ◌∷◌, Option, Some, None, is_some, refl, sym, ap, ◌∙◌, subst, eqb-true, eq-eqb, arith}
use Rattle.std.specs.Cmp.Lexicographic.{slice_cmp, nat_list_cmp_total, bytes_decides, texts_ties}
use Rattle.std.specs.List.{Contains, cons_option}
use Rattle.std.specs.List.Sorted.{IsSorted, IsPermutation, IsStrictlySortedBy}
use Rattle.std.proofs.Common.{Ordering, Equal}
use Rattle.std.specs.Ordering.{nat_cmp, is_eq}
use Rattle.std.proofs.lemmas.Bool.{false≢true, cond-true}
use Rattle.std.proofs.lemmas.List.Elements.{All-from_recursion, All-contains}
use Rattle.std.proofs.lemmas.Option.{none-some}
use Rattle.tree_model.specs.declared.inode.Inode.{Inode}
use Rattle.tree_model.specs.declared.inode.Place.{Place}
use Rattle.tree_model.specs.State.{place_at, child, name_in, names_in, sorted_names}
use Rattle.tree_model.proofs.Children.{entry, place_at-child, place_at-no_child}
use Rattle.tree_model.proofs.Sorting.{IsNew, Rises, IsSorted-sorted_by, IsPermutation-sorted_by, Rises-insert_by, IsNew-sorted_by, IsStrictlySorted-Rises}

abbrev by_bytes : List ℕ → List ℕ → Ordering
by_bytes = slice_cmp nat_cmp

-- names that tie are one
by_bytes-Equal : (n m : List ℕ) → by_bytes n m ≡ Equal → n ≡ m
by_bytes-Equal n m e = (bytes_decides n m).0 (texts_ties n m ∙ ap is_eq e)

-- names are put in order as anything else is
pub IsSorted-sorted_names : (names : List (List ℕ)) → IsSorted by_bytes (sorted_names names)
IsSorted-sorted_names names = IsSorted-sorted_by by_bytes nat_list_cmp_total names

pub IsPermutation-sorted_names : (names : List (List ℕ)) → IsPermutation names (sorted_names names)
IsPermutation-sorted_names names = IsPermutation-sorted_by by_bytes nat_list_cmp_total names

-- no two nodes stand at one entry
abbrev Apart : List Inode → Type 0
Apart nodes = (x y : ℕ) (place : Place) → place_at nodes x ≡ Some place → place_at nodes y ≡ Some place → x ≡ y

Apart-tail : (inode : Inode) (nodes : List Inode) → Apart (inode ∷ nodes) → Apart nodes
Apart-tail inode nodes apart x y place p q = let e = apart (suc x) (suc y) place p q in omega (arith, e)

-- an entry at which nobody stands isn't among the names
IsNew-names_in : (nodes : List Inode) (d : ℕ) (n : List ℕ) → ((x : ℕ) → place_at nodes x ≢ Some (entry d n)) → IsNew n (names_in nodes d)
IsNew-names_in [] d n nobody = tt
IsNew-names_in (inode ∷ nodes) d n nobody = by inode.place refl (IsNew-names_in nodes d n (λ x. nobody (suc x)))
  where
    by : (o : Option Place) → inode.place ≡ o → IsNew n (names_in nodes d) → IsNew n (cons_option (name_in d o) (names_in nodes d))
    by None e rest = rest
    by (Some place) e rest = test (place.parent == d) refl
      where
        test : (b : Bool) → (place.parent == d) ≡ b → IsNew n (cons_option (cond b (Some place.name) None) (names_in nodes d))
        test true q = ((λ same. nobody 0 (e ∙ (λ i. Some (entry (eqb-true place.parent d q i) (same i))))), rest)
        test false q = rest

Rises-sorted : (nodes : List Inode) (d : ℕ) → Apart nodes → Rises by_bytes (sorted_names (names_in nodes d))
Rises-sorted [] d apart = tt
Rises-sorted (inode ∷ nodes) d apart = by inode.place refl (Rises-sorted nodes d (Apart-tail inode nodes apart))
  where
    by : (o : Option Place) → inode.place ≡ o → Rises by_bytes (sorted_names (names_in nodes d)) → Rises by_bytes (sorted_names (cons_option (name_in d o) (names_in nodes d)))
    by None e rest = rest
    by (Some place) e rest = test (place.parent == d) refl
      where
        alone : place.parent ≡ d → (x : ℕ) → place_at nodes x ≢ Some (entry d place.name)
        alone q x p =
            let e' : 0 ≡ suc x = apart 0 (suc x) (entry d place.name) (e ∙ (λ i. Some (entry (q i) place.name))) p in
            absurd (omega (arith, e'))

        test : (b : Bool) → (place.parent == d) ≡ b → Rises by_bytes (sorted_names (cons_option (cond b (Some place.name) None) (names_in nodes d)))
        test true q =
            Rises-insert_by by_bytes nat_list_cmp_total by_bytes-Equal place.name (sorted_names (names_in nodes d)) rest
            (IsNew-sorted_by by_bytes nat_list_cmp_total by_bytes-Equal place.name (names_in nodes d) (IsNew-names_in nodes d place.name (alone (eqb-true place.parent d q))))
        test false q = rest

pub IsStrictlySorted-sorted_names : (nodes : List Inode) (d : ℕ) → Apart nodes → IsStrictlySortedBy by_bytes (sorted_names (names_in nodes d))
IsStrictlySorted-sorted_names nodes d apart = IsStrictlySorted-Rises by_bytes nat_list_cmp_total by_bytes-Equal (sorted_names (names_in nodes d)) (Rises-sorted nodes d apart)

-- ---- the names are those of the entries

Contains-cons_option : (o : Option (List ℕ)) (names : List (List ℕ)) (n : List ℕ) → Contains names n → Contains (cons_option o names) n
Contains-cons_option None names n c = c
Contains-cons_option (Some m) names n c = (suc c.0, omega (arith, c.1), c.2)

pub Contains-names_in : (nodes : List Inode) (d : ℕ) (n : List ℕ) (c : ℕ) → place_at nodes c ≡ Some (entry d n) → Contains (names_in nodes d) n
Contains-names_in [] d n c e = absurd (none-some (entry d n) e)
Contains-names_in (inode ∷ nodes) d n zero e =
    subst (λ o. Contains (cons_option o (names_in nodes d)) n)
    (sym (ap (name_in d) e ∙ cond-true (d == d) (Some n) None (eq-eqb d d refl)))
    (0, omega arith, refl)
Contains-names_in (inode ∷ nodes) d n (suc c) e = Contains-cons_option (name_in d inode.place) (names_in nodes d) n (Contains-names_in nodes d n c e)

pub child-from_names_in : (nodes : List Inode) (d : ℕ) (n : List ℕ) → Contains (names_in nodes d) n → is_some (child nodes d n) ≡ true
child-from_names_in nodes d n c = by (child nodes d n) refl
  where
    by : (o : Option ℕ) → child nodes d n ≡ o → is_some o ≡ true
    by None e =
        absurd (All-contains (λ m. m ≢ n) (names_in nodes d) n
        (All-from_recursion (λ m. m ≢ n) (names_in nodes d) (IsNew-names_in nodes d n (place_at-no_child nodes d n e))) c refl)
    by (Some x) e = refl

pub names_in-from_child : (nodes : List Inode) (d : ℕ) (n : List ℕ) → is_some (child nodes d n) ≡ true → Contains (names_in nodes d) n
names_in-from_child nodes d n h = by (child nodes d n) refl h
  where
    by : (o : Option ℕ) → child nodes d n ≡ o → is_some o ≡ true → Contains (names_in nodes d) n
    by None e h = absurd (false≢true h)
    by (Some c) e h = Contains-names_in nodes d n c (place_at-child nodes d n c e)
