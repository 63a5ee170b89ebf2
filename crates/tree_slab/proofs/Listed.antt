-- The names in a directory's map are those of its entries, in order.
use Rattle.std.proofs.Common.{◌≡◌, ℕ, suc, Bool, true, false, cond, ◌==◌, ◌&&◌, ◌||◌, List, [], ◌∷◌, Option, Some, None, is_some, Result, Ok, Err, IfOk, subst, refl, ap, sym, ◌∙◌, Ordering, Less, Equal, Greater}
use Rattle.std.specs.Cmp.Lexicographic.{slice_cmp, nat_list_cmp_total, bytes_decides}
use Rattle.std.specs.List.{AllByRecursion, list_any, cons_option}
use Rattle.std.specs.List.Sorted.{IsStrictlySortedBy}
use Rattle.std.specs.Map.{lookup, keys_of}
use Rattle.std.specs.Ordering.{nat_cmp, is_eq, ordering_reverse}
use Rattle.std.proofs.lemmas.Bool.{false≢true, true≢false}
use Rattle.std.proofs.lemmas.List.Sorted.{list_any-IsPermutation}
use Rattle.std.proofs.lemmas.Map.Keys.{sorted_head, sorted_tail}
use Rattle.path_text.specs.Name.{same_bytes}
use Rattle.path_text.specs.declared.errno.NoMemory.{NoMemory}
use Rattle.tree_model.specs.declared.inode.Inode.{Inode}
use Rattle.tree_model.specs.declared.inode.Place.{Place}
use Rattle.tree_model.specs.State.{is_at, child_from, name_in, names_in, sorted_names}
use Rattle.tree_model.proofs.Listing.{IsPermutation-sorted_names, IsStrictlySorted-sorted_names}
use Rattle.tree_slab.specs.Directories.{is_name, entries_at, entry_in, names_at}
use Rattle.tree_slab.specs.Index.{IsIndexed}
use Rattle.tree_slab.proofs.NameOrder.{is_name-refl, is_name-true}
use Rattle.tree_slab.proofs.Index.{child-index}

-- ---- strictly sorted names are told by what they contain

abbrev by_bytes : List ℕ → List ℕ → Ordering
by_bytes = slice_cmp nat_cmp

not_below : (x : List ℕ) (names : List (List ℕ)) → AllByRecursion (λ z. by_bytes x z ≡ Less) names → list_any (is_name x) names ≡ false
not_below x [] all = refl
not_below x (z ∷ names) all = rw all.0 (not_below x names all.1)

below_too : (x y : List ℕ) (names : List (List ℕ)) → by_bytes x y ≡ Less → AllByRecursion (λ z. by_bytes y z ≡ Less) names → AllByRecursion (λ z. by_bytes x z ≡ Less) names
below_too x y [] less all = tt
below_too x y (z ∷ names) less all = (nat_list_cmp_total.trans x y z less all.0, below_too x y names less all.1)

-- the one before all names of a sorted list isn't among them
before_all : (x y : List ℕ) (names : List (List ℕ)) → IsStrictlySortedBy by_bytes (y ∷ names) → by_bytes x y ≡ Less → list_any (is_name x) (y ∷ names) ≡ false
before_all x y names sorted less = not_below x (y ∷ names) (less, below_too x y names less (sorted_head by_bytes y names sorted))

first_is_there : (x : List ℕ) (names : List (List ℕ)) → list_any (is_name x) (x ∷ names) ≡ true
first_is_there x names = rw (is_name-refl x) refl

-- without the first names, which are one, the lists contain the same
rest_alike : (x y : List ℕ) (xs ys : List (List ℕ)) → x ≡ y → IsStrictlySortedBy by_bytes (x ∷ xs) → IsStrictlySortedBy by_bytes (y ∷ ys)
    → ((q : List ℕ) → list_any (is_name q) (x ∷ xs) ≡ list_any (is_name q) (y ∷ ys)) → (q : List ℕ) → list_any (is_name q) xs ≡ list_any (is_name q) ys
rest_alike x y xs ys same s t alike q = by (is_name q x) refl
  where
    by : (b : Bool) → is_name q x ≡ b → list_any (is_name q) xs ≡ list_any (is_name q) ys
    by true e =
        let one : q ≡ x = is_name-true q x e in
        let two : q ≡ y = one ∙ same in
        ap (λ z. list_any (is_name z) xs) one ∙ not_below x xs (sorted_head by_bytes x xs s) ∙ sym (ap (λ z. list_any (is_name z) ys) two ∙ not_below y ys (sorted_head by_bytes y ys t))
    by false e =
        let f : is_name q y ≡ false = ap (is_name q) (sym same) ∙ e in
        sym (ap (λ b. b || list_any (is_name q) xs) e) ∙ alike q ∙ ap (λ b. b || list_any (is_name q) ys) f

same_names : (xs ys : List (List ℕ)) → IsStrictlySortedBy by_bytes xs → IsStrictlySortedBy by_bytes ys → ((q : List ℕ) → list_any (is_name q) xs ≡ list_any (is_name q) ys) → xs ≡ ys
same_names [] [] s t alike = refl
same_names [] (y ∷ ys) s t alike = absurd (false≢true (alike y ∙ first_is_there y ys))
same_names (x ∷ xs) [] s t alike = absurd (true≢false (sym (first_is_there x xs) ∙ alike x))
same_names (x ∷ xs) (y ∷ ys) s t alike = by (λ same. same_names xs ys (sorted_tail by_bytes x xs s) (sorted_tail by_bytes y ys t) (rest_alike x y xs ys same s t alike)) (by_bytes x y) refl
  where
    by : (x ≡ y → xs ≡ ys) → (r : Ordering) → by_bytes x y ≡ r → (x ∷ xs) ≡ (y ∷ ys)
    by rest Less e = absurd (true≢false (sym (first_is_there x xs) ∙ alike x ∙ before_all x y ys t e))
    by rest Equal e = let same : x ≡ y = is_name-true x y (ap is_eq e) in let more = rest same in λ i. same i ∷ more i
    by rest Greater e = absurd (true≢false (sym (first_is_there y ys) ∙ sym (alike y) ∙ before_all y x xs s (nat_list_cmp_total.antisymm y x ∙ ap ordering_reverse e)))

-- ---- what the map and the nodes contain

any_of_keys : (q : List ℕ) (entries : List (List ℕ × ℕ)) → list_any (is_name q) (keys_of entries) ≡ is_some (lookup (is_name q) entries)
any_of_keys q [] = refl
any_of_keys q (entry ∷ entries) = by (any_of_keys q entries) (is_name q entry.0)
  where
    by : list_any (is_name q) (keys_of entries) ≡ is_some (lookup (is_name q) entries) → (b : Bool) → (b || list_any (is_name q) (keys_of entries)) ≡ is_some (cond b (Some entry.1) (lookup (is_name q) entries))
    by rest true = refl
    by rest false = rest

any_of_names : (directories : List (Option (List (List ℕ × ℕ)))) (d : ℕ) (q : List ℕ) → list_any (is_name q) (names_at directories d) ≡ is_some (entry_in directories d q)
any_of_names directories d q = by (entries_at directories d) refl
  where
    by : (o : Option (List (List ℕ × ℕ))) → entries_at directories d ≡ o → list_any (is_name q) (names_at directories d) ≡ is_some (entry_in directories d q)
    by None e = rw e refl
    by (Some entries) e = rw e (any_of_keys q entries)

is_name-flip : (n m : List ℕ) → is_name n m ≡ same_bytes m n
is_name-flip n m = by (is_name n m) (same_bytes m n) refl refl
  where
    by : (b s : Bool) → is_name n m ≡ b → same_bytes m n ≡ s → b ≡ s
    by true true e f = refl
    by false false e f = refl
    by true false e f = absurd (false≢true (sym f ∙ (bytes_decides m n).1 (sym (is_name-true n m e))))
    by false true e f = absurd (false≢true (sym e ∙ ap (is_name n) ((bytes_decides m n).0 f) ∙ is_name-refl n))

any_in : (k : ℕ) (nodes : List Inode) (d : ℕ) (q : List ℕ) → list_any (is_name q) (names_in nodes d) ≡ is_some (child_from k nodes d q)
any_in k [] d q = refl
any_in k (inode ∷ nodes) d q = by (any_in (suc k) nodes d q) inode.place
  where
    by : list_any (is_name q) (names_in nodes d) ≡ is_some (child_from (suc k) nodes d q) → (o : Option Place)
        → list_any (is_name q) (cons_option (name_in d o) (names_in nodes d)) ≡ is_some (cond (is_at d q o) (Some k) (child_from (suc k) nodes d q))
    by rest None = rest
    by rest (Some place) = test (place.parent == d)
      where
        both : (s : Bool) → (s || list_any (is_name q) (names_in nodes d)) ≡ is_some (cond s (Some k) (child_from (suc k) nodes d q))
        both true = refl
        both false = rest

        test : (b : Bool) → list_any (is_name q) (cons_option (cond b (Some place.name) None) (names_in nodes d)) ≡ is_some (cond (b && same_bytes place.name q) (Some k) (child_from (suc k) nodes d q))
        test true = ap (λ b. b || list_any (is_name q) (names_in nodes d)) (is_name-flip q place.name) ∙ both (same_bytes place.name q)
        test false = rest

pub names_listed : (nodes : List Inode) (directories : List (Option (List (List ℕ × ℕ)))) → IsIndexed nodes directories → (d : ℕ)
    → IsStrictlySortedBy (slice_cmp nat_cmp) (names_at directories d) → names_at directories d ≡ sorted_names (names_in nodes d)
names_listed nodes directories i d sorted =
    same_names (names_at directories d) (sorted_names (names_in nodes d)) sorted (IsStrictlySorted-sorted_names nodes d i.tree.apart)
    (λ q.
    any_of_names directories d q ∙ ap is_some (sym (child-index nodes directories i d q)) ∙ sym (any_in 0 nodes d q)
    ∙ list_any-IsPermutation (is_name q) (names_in nodes d) (sorted_names (names_in nodes d)) (IsPermutation-sorted_names (names_in nodes d)))

-- the same of the names that a listing gives, unless there was no memory
pub listed_or_not : (nodes : List Inode) (directories : List (Option (List (List ℕ × ℕ)))) → IsIndexed nodes directories → (d : ℕ) (r : Result (List (List ℕ)) NoMemory)
    → IfOk r (λ names. names ≡ names_at directories d) → IfOk r (λ names. IsStrictlySortedBy (slice_cmp nat_cmp) names) → IfOk r (λ names. names ≡ sorted_names (names_in nodes d))
listed_or_not nodes directories i d (Ok names) same sorted =
    same ∙ names_listed nodes directories i d (subst (λ all. IsStrictlySortedBy (slice_cmp nat_cmp) all) same sorted)
listed_or_not nodes directories i d (Err error) same sorted = tt
