-- A layer's states by the numbers of their keys: whoever has one key is looked up, and how the states grow.
use Rattle.std.specs.Prelude.{◌≡◌, ◌<◌, ◌≤◌, ◌⊎◌, ℕ, ◌+◌, List, [], ◌∷◌, ◌++◌, Bool, true, false, length, None, Some, slice_get, refl}
use Rattle.std.proofs.Common.{inl, inr, sym, ap, ◌∙◌, subst, ⊎_elim, cond, get_or, drop, IsTrue, arith}
use Rattle.std.specs.List.{count_by}
use Rattle.std.proofs.lemmas.List.{map_push, at_drop_more}
use Rattle.std.proofs.lemmas.List.Recursion.{is_count_by}
use Rattle.std.proofs.lemmas.Option.{same_Some, slice_get_read, slice_get_within}
use Rattle.layered_search.specs.declared.frontier.layer.Visited.{Visited}
use Rattle.layered_search.specs.System.{System, Keys, AreKeys}
use Rattle.layered_search.specs.Distinct.{Keeps}
use Rattle.layered_search.specs.Marked.{IsSameAt, IsOneAt, IsNew, AreMarked, AreMerged, AreLookedUp, IsPut, prints_of}
use Rattle.layered_search.proofs.Layers.EdgesGrown.{keeps_push}
use Rattle.layered_search.proofs.Lists.Chains.{IsAlong, gone_along}
use Rattle.layered_search.proofs.Places.{get_push, get_left, get_last, mapped_to}

-- ---- one state at a place

-- whether P holds of its key, found out of the state that is read there
module _ {Key : Type 0} (P : Key → Type 0) (all_visited : List (Visited Key)) (at : ℕ) where
  abbrev pub IsKeyAt : Type 0
  IsKeyAt = (other : Visited Key) × ((slice_get all_visited at ≡ Some other) × P other.key)

  pub key_read : (visited : Visited Key) (b : Bool) → at < length all_visited → visited ≡ get_or all_visited at visited
      → (IsTrue b → P visited.key) × (P visited.key → IsTrue b)
      → (IsTrue b → IsKeyAt) × (IsKeyAt → IsTrue b)
  key_read visited b lt is both =
      let there : slice_get all_visited at ≡ Some visited =
      slice_get_read all_visited (length all_visited) at visited refl lt is in (
        (λ t. (visited, (there, both.0 t))),
        (λ found.
            let same : found.0 ≡ visited = same_Some found.0 visited (sym found.1.0 ∙ there) in
            both.1 (subst (λ (l : Visited Key). P l.key) same found.1.1)),
      )

  -- past the end there is none
  pub none_past : length all_visited ≤ at → IsKeyAt → ⊥
  none_past past found = let lt = slice_get_within all_visited at found.0 found.1.0 in omega (arith, lt)

-- ---- how many are new ones

abbrev pub states : {Key : Type 0} → List (Visited Key) → ℕ
states [] = 0
states (visited ∷ all_visited) = cond visited.is_new (1 + states all_visited) (states all_visited)

module _ {Key : Type 0} where
  abbrev pub count_new : List (Visited Key) → ℕ
  count_new all_visited = count_by (λ (visited : Visited Key). visited.is_new) all_visited

  pub states_are : (all_visited : List (Visited Key)) → states all_visited ≡ count_new all_visited
  states_are all_visited =
      is_count_by states (λ (visited : Visited Key). visited.is_new) refl (λ x xs. refl) all_visited

  pub new_read : (all_visited : List (Visited Key)) (at : ℕ) (visited : Visited Key) (b : Bool)
      → visited ≡ get_or all_visited at visited → (get_or all_visited at visited).is_new ≡ b → visited.is_new ≡ b
  new_read all_visited at visited b is e = ap (λ (l : Visited Key). l.is_new) is ∙ e

  -- from one place on, and from the next
  pub states_from : (all_visited : List (Visited Key)) (at : ℕ) (visited : Visited Key) → at < length all_visited
      → visited ≡ get_or all_visited at visited
      → count_new (drop at all_visited)
      ≡ cond visited.is_new (1 + count_new (drop (at + 1) all_visited)) (count_new (drop (at + 1) all_visited))
  states_from all_visited at visited lt is =
      sym (states_are (drop at all_visited))
      ∙ (at_drop_more states all_visited at visited lt
      ∙ (ap (λ (l : Visited Key). states (l ∷ drop (at + 1) all_visited)) (sym is)
      ∙ ap (λ (n : ℕ). cond visited.is_new (1 + n) n) (states_are (drop (at + 1) all_visited))))

-- ---- one state more

module _ {Key : Type 0} (all_visited new : List (Visited Key)) (visited : Visited Key)
    (is : new ≡ all_visited ++ visited ∷ []) where
  pub put_keeps : Keeps all_visited new
  put_keeps m x there = ap (λ (xs : List (Visited Key)). slice_get xs m) is ∙ keeps_push all_visited visited m x there

  pub put_new : (key : Key) (turns : List ℕ) → IsPut key turns visited → (m : ℕ) (one : Visited Key)
      → slice_get new m ≡ Some one → (slice_get all_visited m ≡ Some one) ⊎ IsPut key turns one
  put_new key turns own m one there =
      ⊎_elim (λ was. inl was) (λ last. inr (subst (λ (l : Visited Key). IsPut key turns l) (sym last.1) own))
      (get_push all_visited visited m one (ap (λ (xs : List (Visited Key)). slice_get xs m) (sym is) ∙ there))

module _ {State Memory Key : Type 0} (k : Keys State Memory Key) where
  pub one_same_at : (key : Key) (all_visited : List (Visited Key)) (at : ℕ) → IsOneAt k key all_visited at
      → IsNew k false all_visited (length all_visited) key
  one_same_at key all_visited at found = (at, (slice_get_within all_visited at found.0 found.1.0, found))

  module _ (all_visited : List (Visited Key)) (visited : Visited Key) where
    one_left : (key : Key) (at : ℕ) → IsOneAt k key all_visited at → IsOneAt k key (all_visited ++ visited ∷ []) at
    one_left key at found = (found.0, (get_left all_visited visited at found.0 found.1.0, found.1.1))

    one_was : (key : Key) (n at : ℕ) → at < n → n ≤ length all_visited
        → IsOneAt k key (all_visited ++ visited ∷ []) at → IsOneAt k key all_visited at
    one_was key n at lt le found =
        ⊎_elim (λ was. (found.0, (was, found.1.1))) (λ last. absurd (omega (arith, lt, le, last.0)))
        (get_push all_visited visited at found.0 found.1.0)

    new_stays : (b : Bool) (n : ℕ) (key : Key) → n ≤ length all_visited → IsNew k b all_visited n key
        → IsNew k b (all_visited ++ visited ∷ []) n key
    new_stays true n key le is = λ at lt found. is at lt (one_was key n at lt le found)
    new_stays false n key le is = (is.0, (is.1.0, one_left key is.0 is.1.1))

    marked_more : AreMarked k all_visited → IsNew k visited.is_new all_visited (length all_visited) visited.key
        → AreMarked k (all_visited ++ visited ∷ [])
    marked_more markings own m one there =
        ⊎_elim (λ was. new_stays one.is_new m one.key (below m one was) (markings m one was))
        (λ last. here last.0 last.1) (get_push all_visited visited m one there)
      where
        below : (m : ℕ) (one : Visited Key) → slice_get all_visited m ≡ Some one → m ≤ length all_visited
        below m one was = let lt : m < length all_visited = slice_get_within all_visited m one was in omega (arith, lt)

        here : m ≡ length all_visited → one ≡ visited → IsNew k one.is_new (all_visited ++ visited ∷ []) m one.key
        here at is =
            subst (λ (n : ℕ). IsNew k one.is_new (all_visited ++ visited ∷ []) n one.key) (sym at)
            (subst (λ (l : Visited Key). IsNew k l.is_new (all_visited ++ visited ∷ []) (length all_visited) l.key)
            (sym is) (new_stays visited.is_new (length all_visited) visited.key (omega arith) own))

    same_was : (key : Key) (n at : ℕ) → at < n → n ≤ length all_visited
        → IsSameAt k key (all_visited ++ visited ∷ []) at → IsSameAt k key all_visited at
    same_was key n at lt le found =
        ⊎_elim (λ was. (found.0, (was, found.1.1))) (λ last. absurd (omega (arith, lt, le, last.0)))
        (get_push all_visited visited at found.0 found.1.0)

    merged_more : AreMerged k all_visited → ((at : ℕ) → IsSameAt k visited.key all_visited at → ⊥)
        → AreMerged k (all_visited ++ visited ∷ [])
    merged_more merged none m at one there lt found = ⊎_elim early late (get_push all_visited visited m one there)
      where
        early : slice_get all_visited m ≡ Some one → ⊥
        early was =
            let within : m < length all_visited = slice_get_within all_visited m one was in
            merged m at one was lt (same_was one.key m at lt (omega (arith, within)) found)

        late : (m ≡ length all_visited) × (one ≡ visited) → ⊥
        late last =
            let own : IsSameAt k visited.key (all_visited ++ visited ∷ []) at =
            subst (λ (l : Visited Key). IsSameAt k l.key (all_visited ++ visited ∷ []) at) last.1 found in
            none at (same_was visited.key m at lt (omega (arith, last.0)) own)

  -- the states and the table with one more
  pub looked_more : (all_visited new : List (Visited Key)) (visited : Visited Key) → new ≡ all_visited ++ visited ∷ []
      → (table more : List ℕ) (print : ℕ) → AreLookedUp k all_visited table → more ≡ table ++ print ∷ []
      → print ≡ k.print_of visited.key → ((at : ℕ) → IsSameAt k visited.key all_visited at → ⊥)
      → IsNew k visited.is_new all_visited (length all_visited) visited.key → AreLookedUp k new more
  looked_more all_visited new visited is table more print up longer own none marked =
      subst (λ (xs : List (Visited Key)). AreLookedUp k xs more) (sym is) (record {
        prints = longer
            ∙ (ap (λ (ps : List ℕ). ps ++ print ∷ []) up.prints
            ∙ (ap (λ (p : ℕ). prints_of k all_visited ++ p ∷ []) own
            ∙ sym (map_push (λ (l : Visited Key). k.print_of l.key) all_visited visited)));
        merged = merged_more all_visited visited up.merged none;
        markings = marked_more all_visited visited up.markings marked;
      })

-- ---- whoever has the key has its number

module _ {State Memory Key : Type 0} (s : System State) (k : Keys State Memory Key) (laws : AreKeys s k) where
  pub put_there : (all_visited new : List (Visited Key)) (visited : Visited Key) → new ≡ all_visited ++ visited ∷ []
      → (key : Key) (at : ℕ) → at ≡ length all_visited → visited.key ≡ key → IsSameAt k key new at
  put_there all_visited new visited is key at here e = (
    visited,
    (
      ap (λ (m : ℕ). slice_get new m) here
          ∙ (ap (λ (xs : List (Visited Key)). slice_get xs (length all_visited)) is ∙ get_last all_visited visited),
      subst (λ (other : Key). k.AreSame key other) (sym e) (laws.same_itself key),
    ),
  )

  module _ (key : Key) (print : ℕ) (all_visited : List (Visited Key)) (table : List ℕ)
      (is : table ≡ prints_of k all_visited) (own : print ≡ k.print_of key) where
    print_at : (at : ℕ) → IsOneAt k key all_visited at → slice_get table at ≡ Some print
    print_at at found =
        ap (λ (ps : List ℕ). slice_get ps at) is
        ∙ (mapped_to (λ (l : Visited Key). k.print_of l.key) all_visited at found.0 found.1.0
        ∙ ap Some (sym (laws.one_print key found.0.key found.1.1) ∙ sym own))

    pub none_same : IsAlong table print (IsSameAt k key all_visited) None
        → (at : ℕ) → IsSameAt k key all_visited at → ⊥
    none_same along at found =
        gone_along table print (IsSameAt k key all_visited) along at
        (print_at at (found.0, (found.1.0, laws.same_counts key found.0.key found.1.1))) found

    pub none_one : IsAlong table print (IsOneAt k key all_visited) None
        → IsNew k true all_visited (length all_visited) key
    none_one along at lt found = gone_along table print (IsOneAt k key all_visited) along at (print_at at found) found
