-- Chains of parents: how long one is, that it leads round no circle, and that NameBelow's names are those of the one chain there is.
use Rattle.std.proofs.Common.{◌≡◌, ◌≢◌, ℕ, zero, suc, ◌+◌, ◌<◌, ◌≤◌, Bool, true, false, ◌==◌, eqb, cond, List, [], ◌∷◌, length, Option, Some, None, is_some, refl, sym, ap, ◌∙◌, subst, eqb-true, eq-eqb, ne_eqb, arith, ◌++◌}
use Rattle.std.specs.List.{list_any, AllByRecursion, IsDistinct}
use Rattle.std.specs.Option.{option_map, option_and_then}
use Rattle.std.proofs.lemmas.Bool.{false≢true, eqb-false, or_cases, or_left, or_right, cond-true, cond-false}
use Rattle.std.proofs.Common.{⊎_elim}
use Rattle.std.proofs.lemmas.Map.Steps.{length-le_from_distinct_below}
use Rattle.std.proofs.lemmas.Option.{none-some, same_Some}
use Rattle.tree_model.specs.declared.inode.Inode.{Inode}
use Rattle.tree_model.specs.declared.inode.Place.{Place}
use Rattle.tree_model.specs.State.{TOP, place_at, Stands, names_within, names_below, is_within}
use Rattle.tree_model.specs.Trees.{Rooted, IsTree, top, below}
use Rattle.tree_model.proofs.Places.{place_at-within, place_at-append}
use Rattle.tree_model.proofs.Children.{entry}

-- what stands at its names stands there with more nodes
pub Stands-append : (nodes more : List Inode) (r x : ℕ) (names : List (List ℕ)) → Stands nodes r x names → Stands (nodes ++ more) r x names
Stands-append nodes more r x [] s = s
Stands-append nodes more r x (n ∷ names) s =
    (s.0, (s.1.0, (place_at-append nodes more x (entry s.1.0 n) s.1.1.0, Stands-append nodes more r s.1.0 names s.1.1.1)))

-- ---- the way up to the top

-- how many directories a node stands below
abbrev pub rank : {nodes : List Inode} {x : ℕ} → Rooted nodes x → ℕ
rank top = 0
rank (below place e r) = suc (rank r)

module _ (nodes : List Inode) (free : place_at nodes TOP ≡ None) where
  -- the same way, of the same length, to an equal node
  rank_along : {x y : ℕ} → x ≡ y → (r : Rooted nodes x) → (q : Rooted nodes y) × (rank q ≡ rank r)
  rank_along {x} {y} e r = subst (λ y. (q : Rooted nodes y) × (rank q ≡ rank r)) e (r, refl)

  -- one step up
  rank_above : {x : ℕ} (r : Rooted nodes x) (place : Place) → place_at nodes x ≡ Some place → (q : Rooted nodes place.parent) × (rank r ≡ suc (rank q))
  rank_above top place e = absurd (none-some place (sym free ∙ e))
  rank_above (below p e' r) place e =
      let q = rank_along (ap (λ k. k.parent) (same_Some p place (sym e' ∙ e))) r in
      (q.0, ap suc (sym q.1))

  -- all ways up from a node are of one length
  pub rank_unique : {x : ℕ} (r q : Rooted nodes x) → rank r ≡ rank q
  rank_unique top q = sym (at_top q refl)
    where
      at_top : {x : ℕ} (q : Rooted nodes x) → x ≡ TOP → rank q ≡ 0
      at_top top e = refl
      at_top (below place p q) e = absurd (none-some place (sym free ∙ ap (place_at nodes) (sym e) ∙ p))
  rank_unique (below place e r) q =
      let above = rank_above q place e in
      ap suc (rank_unique r above.0) ∙ sym above.1

-- the nodes on the way up, the top aside
abbrev way : {nodes : List Inode} {x : ℕ} → Rooted nodes x → List ℕ
way top = []
way (below {x = x} place e r) = x ∷ way r

length-way : {nodes : List Inode} {x : ℕ} (r : Rooted nodes x) → length (way r) ≡ rank r
length-way top = refl
length-way (below place e r) = ap suc (length-way r)

all_of : (P : ℕ → Type 0) (xs : List ℕ) → ((y : ℕ) → list_any (eqb y) xs ≡ true → P y) → AllByRecursion P xs
all_of P [] f = tt
all_of P (x ∷ xs) f = (
  f x (or_left (eqb x x) (list_any (eqb x) xs) (eq-eqb x x refl)),
  all_of P xs (λ y h. f y (or_right (eqb y x) (list_any (eqb y) xs) h)),
)

module _ (nodes : List Inode) (free : place_at nodes TOP ≡ None) where
  -- each node on the way has a way of its own, which is no longer
  on_way : {x : ℕ} (r : Rooted nodes x) (y : ℕ) → list_any (eqb y) (way r) ≡ true → (q : Rooted nodes y) × (rank q ≤ rank r)
  on_way top y h = absurd (false≢true h)
  on_way (below {x = x} place e r) y h =
      ⊎_elim
      (λ t. let q = rank_along nodes free (sym (eqb-true y x t)) (below place e r) in (q.0, omega (arith, q.1)))
      (λ t. let q = on_way r y t in (q.0, omega (arith, q.1)))
      (or_cases (eqb y x) (list_any (eqb y) (way r)) h)

  way_within : {x : ℕ} (r : Rooted nodes x) (y : ℕ) → list_any (eqb y) (way r) ≡ true → y < length nodes
  way_within top y h = absurd (false≢true h)
  way_within (below {x = x} place e r) y h =
      ⊎_elim
      (λ t. let w = place_at-within nodes x place e in omega (arith, eqb-true y x t))
      (λ t. way_within r y t)
      (or_cases (eqb y x) (list_any (eqb y) (way r)) h)

  way_distinct : {x : ℕ} (r : Rooted nodes x) → IsDistinct eqb (way r)
  unfolding IsDistinct
  way_distinct top = tt
  way_distinct (below {x = x} place e r) = (
    all_of (λ y. eqb x y ≡ false) (way r)
        (λ y h. ne_eqb x y (λ q.
        let along = on_way r y h in
        let own = rank_along nodes free q (below place e r) in
        let same = rank_unique nodes free along.0 own.0 in
        omega (arith, along.1, own.1, same))),
    way_distinct r,
  )

  -- a way is no longer than there are nodes
  pub rank_few : {x : ℕ} (r : Rooted nodes x) → rank r ≤ length nodes
  rank_few r =
      let few = length-le_from_distinct_below (way r) (length nodes) (way_distinct r) (way_within r) in
      omega (arith, few, length-way r)

-- ---- the names from one node down to another

module _ (nodes : List Inode) (r x : ℕ) (names : List (List ℕ)) where
  -- it is the node itself, or else what the test leaves
  at_itself : (otherwise : Option (List (List ℕ))) → (x ≢ r → otherwise ≡ Some names → Stands nodes r x names)
      → (b : Bool) → (x == r) ≡ b → cond b (Some []) otherwise ≡ Some names → Stands nodes r x names
  at_itself otherwise below_it true t e = subst (Stands nodes r x) (same_Some [] names e) (eqb-true x r t)
  at_itself otherwise below_it false t e = below_it (eqb-false x r t) e

  -- the parent's names, and the node's own before them
  with_name : x ≢ r → (place : Place) → place_at nodes x ≡ Some place → (o : Option (List (List ℕ)))
      → ((ns : List (List ℕ)) → o ≡ Some ns → Stands nodes r place.parent ns)
      → option_map (λ ns. place.name ∷ ns) o ≡ Some names → Stands nodes r x names
  with_name ne place p None up e = absurd (none-some names e)
  with_name ne place p (Some ns) up e = subst (Stands nodes r x) (same_Some (place.name ∷ ns) names e) (ne, (place.parent, (p, up ns refl)))

  by_parent : x ≢ r → (names_of : ℕ → Option (List (List ℕ))) → ((y : ℕ) (ns : List (List ℕ)) → names_of y ≡ Some ns → Stands nodes r y ns)
      → (o : Option Place) → place_at nodes x ≡ o
      → option_and_then (λ place. option_map (λ ns. place.name ∷ ns) (names_of place.parent)) o ≡ Some names → Stands nodes r x names
  by_parent ne names_of up None p e = absurd (none-some names e)
  by_parent ne names_of up (Some place) p e = with_name ne place p (names_of place.parent) (up place.parent) e

-- what is found by at most k parents stands there
pub Stands-names_within : (k : ℕ) (nodes : List Inode) (r x : ℕ) (names : List (List ℕ)) → names_within k nodes r x ≡ Some names → Stands nodes r x names
Stands-names_within zero nodes r x names e = at_itself nodes r x names None (λ ne h. absurd (none-some names h)) (x == r) refl e
Stands-names_within (suc k) nodes r x names e =
    at_itself nodes r x names
    (option_and_then (λ place. option_map (λ ns. place.name ∷ ns) (names_within k nodes r place.parent)) (place_at nodes x))
    (λ ne h. by_parent nodes r x names ne (names_within k nodes r) (λ y ns. Stands-names_within k nodes r y ns) (place_at nodes x) refl h)
    (x == r) refl e

-- what stands at no more than k names is found there
pub names_within-Stands : (k : ℕ) (nodes : List Inode) (r x : ℕ) (names : List (List ℕ)) → Stands nodes r x names → length names ≤ k
    → names_within k nodes r x ≡ Some names
names_within-Stands zero nodes r x [] h few = cond-true (x == r) (Some []) None (eq-eqb x r h)
names_within-Stands (suc k) nodes r x [] h few = cond-true (x == r) (Some []) _ (eq-eqb x r h)
names_within-Stands zero nodes r x (n ∷ names) h few = absurd (omega arith)
names_within-Stands (suc k) nodes r x (n ∷ names) h few =
    let up = names_within-Stands k nodes r h.1.0 names h.1.1.1 (omega arith) in
    cond-false (x == r) (Some []) _ (ne_eqb x r h.0)
    ∙ ap (option_and_then (λ place. option_map (λ ns. place.name ∷ ns) (names_within k nodes r place.parent))) h.1.1.0
    ∙ ap (option_map (λ ns. n ∷ ns)) up

-- it stands at one list of names
pub Stands-unique : (nodes : List Inode) (r x : ℕ) (names others : List (List ℕ)) → Stands nodes r x names → Stands nodes r x others → names ≡ others
Stands-unique nodes r x [] [] h g = refl
Stands-unique nodes r x [] (m ∷ others) h g = absurd (g.0 h)
Stands-unique nodes r x (n ∷ names) [] h g = absurd (h.0 g)
Stands-unique nodes r x (n ∷ names) (m ∷ others) h g =
    let place = same_Some (entry h.1.0 n) (entry g.1.0 m) (sym h.1.1.0 ∙ g.1.1.0) in
    let rest = Stands-unique nodes r h.1.0 names others h.1.1.1 (subst (λ d. Stands nodes r d others) (ap (λ p. p.parent) (sym place)) g.1.1.1) in
    λ i. (place i).name ∷ rest i

-- a chain of parents up to r is as long as the one's way to the top is longer than r's
rank-Stands : (nodes : List Inode) → place_at nodes TOP ≡ None → (r x : ℕ) (names : List (List ℕ)) → Stands nodes r x names → (q : Rooted nodes x)
    → (p : Rooted nodes r) × (rank q ≡ length names + rank p)
rank-Stands nodes free r x [] h q = let p = rank_along nodes free h q in (p.0, omega (arith, p.1))
rank-Stands nodes free r x (n ∷ names) h q =
    let up = rank_above nodes free q (entry h.1.0 n) h.1.1.0 in
    let p = rank-Stands nodes free r h.1.0 names h.1.1.1 up.0 in
    (p.0, omega (arith, p.1, up.1))

-- what stands somewhere is as few directories down as there are nodes
pub Stands-few : (nodes : List Inode) → IsTree nodes → (r x : ℕ) (names : List (List ℕ)) → Stands nodes r x names → length names ≤ length nodes
Stands-few nodes t r x [] h = omega arith
Stands-few nodes t r x (n ∷ names) h =
    let q = t.rooted x (entry h.1.0 n) h.1.1.0 in
    let p = rank-Stands nodes t.top_is_free r x (n ∷ names) h q in
    let few = rank_few nodes t.top_is_free q in
    omega (arith, p.1, few)

-- in a tree NameBelow's names are those at which the node stands
pub names_below-Stands : (nodes : List Inode) → IsTree nodes → (r x : ℕ) (names : List (List ℕ)) → Stands nodes r x names → names_below nodes r x ≡ Some names
names_below-Stands nodes t r x names h = names_within-Stands (length nodes) nodes r x names h (Stands-few nodes t r x names h)

pub Stands-names_below : (nodes : List Inode) (r x : ℕ) (names : List (List ℕ)) → names_below nodes r x ≡ Some names → Stands nodes r x names
Stands-names_below nodes r x names e = Stands-names_within (length nodes) nodes r x names e

-- ---- what is within a node

-- y is c or stands below it
abbrev pub Under : List Inode → ℕ → ℕ → Type 0
Under nodes c y = (names : List (List ℕ)) × Stands nodes c y names

pub not_under : (nodes : List Inode) → IsTree nodes → (c y : ℕ) → is_within nodes c y ≡ false → Under nodes c y → ⊥
not_under nodes t c y e u = false≢true (sym e ∙ ap is_some (names_below-Stands nodes t c y u.0 u.1))

pub Under-itself : (nodes : List Inode) (c y : ℕ) → y ≡ c → Under nodes c y
Under-itself nodes c y e = ([], e)

-- what is in a directory within c is within c
pub Under-child : (nodes : List Inode) (c y : ℕ) (place : Place) → place_at nodes y ≡ Some place → Under nodes c place.parent → Under nodes c y
Under-child nodes c y place e u = on (y == c) refl
  where
    on : (b : Bool) → (y == c) ≡ b → Under nodes c y
    on true t = Under-itself nodes c y (eqb-true y c t)
    on false t = (place.name ∷ u.0, (eqb-false y c t, (place.parent, (e, u.1))))

-- no node is within its own children
pub not_under_own_child : (nodes : List Inode) → IsTree nodes → (c : ℕ) (place : Place) → place_at nodes c ≡ Some place → Under nodes c place.parent → ⊥
not_under_own_child nodes t c place e u =
    let own = t.rooted c place e in
    let up = rank_above nodes t.top_is_free own place e in
    let p = rank-Stands nodes t.top_is_free c place.parent u.0 u.1 up.0 in
    let same = rank_unique nodes t.top_is_free p.0 own in
    omega (arith, up.1, p.1, same)
