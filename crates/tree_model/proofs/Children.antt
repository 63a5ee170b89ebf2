-- The entries of directories: which node is found at one, and which directory has none.
use Rattle.std.proofs.Common.{◌≡◌, ◌≢◌, ℕ, zero, suc, ◌+◌, Bool, true, false, ◌==◌, List, [], ◌∷◌, Option, Some, None, is_some, cond, refl, sym, ap, ◌∙◌, subst, add-zero, eqb-true, eq-eqb, arith}
use Rattle.std.specs.Cmp.Lexicographic.{bytes_decides}
use Rattle.std.proofs.lemmas.Bool.{false≢true, and_parts, and_from, or_parts, cond-true}
use Rattle.std.proofs.lemmas.Option.{none-some, same_Some}
use Rattle.path_text.specs.Name.{same_bytes}
use Rattle.tree_model.specs.declared.inode.Inode.{Inode}
use Rattle.tree_model.specs.declared.inode.Place.{Place}
use Rattle.tree_model.specs.State.{place_at, is_at, child_from, child, name_in, has_entries}
use Rattle.tree_model.specs.Trees.{IsTree}

-- the entry of that name in that directory
abbrev pub entry : ℕ → List ℕ → Place
entry d n = record { parent = d; name = n }

pub is_at-true : (d : ℕ) (n : List ℕ) (p : Option Place) → is_at d n p ≡ true → p ≡ Some (entry d n)
is_at-true d n None e = absurd (false≢true e)
is_at-true d n (Some place) e =
    let both = and_parts (place.parent == d) (same_bytes place.name n) e in
    λ i. Some (entry (eqb-true place.parent d both.0 i) ((bytes_decides place.name n).0 both.1 i))

pub is_at-entry : (d : ℕ) (n : List ℕ) → is_at d n (Some (entry d n)) ≡ true
is_at-entry d n = and_from (d == d) (same_bytes n n) (eq-eqb d d refl) ((bytes_decides n n).1 refl)

found : (k : ℕ) (inode : Inode) (nodes : List Inode) (d : ℕ) (n : List ℕ) (c : ℕ)
    → (child_from (suc k) nodes d n ≡ Some c → (i : ℕ) × ((c ≡ suc k + i) × (place_at nodes i ≡ Some (entry d n))))
    → (b : Bool) → is_at d n inode.place ≡ b → cond b (Some k) (child_from (suc k) nodes d n) ≡ Some c
    → (i : ℕ) × ((c ≡ k + i) × (place_at (inode ∷ nodes) i ≡ Some (entry d n)))
found k inode nodes d n c later true t e = (0, (sym (same_Some k c e) ∙ sym (add-zero k), is_at-true d n inode.place t))
found k inode nodes d n c later false t e =
    let r = later e in
    let q : c ≡ k + suc r.0 = omega (arith, r.1.0) in
    (suc r.0, (q, r.1.1))

-- what is found, counted from k, stands at the entry
pub child_from-some : (k : ℕ) (nodes : List Inode) (d : ℕ) (n : List ℕ) (c : ℕ) → child_from k nodes d n ≡ Some c
    → (i : ℕ) × ((c ≡ k + i) × (place_at nodes i ≡ Some (entry d n)))
child_from-some k [] d n c e = absurd (none-some c e)
child_from-some k (inode ∷ nodes) d n c e = found k inode nodes d n c (λ h. child_from-some (suc k) nodes d n c h) (is_at d n inode.place) refl e

pub place_at-child : (nodes : List Inode) (d : ℕ) (n : List ℕ) (c : ℕ) → child nodes d n ≡ Some c → place_at nodes c ≡ Some (entry d n)
place_at-child nodes d n c e =
    let r = child_from-some 0 nodes d n c e in
    let q : r.0 ≡ c = omega (arith, r.1.0) in
    subst (λ i. place_at nodes i ≡ Some (entry d n)) q r.1.1

missed : (k : ℕ) (inode : Inode) (nodes : List Inode) (d : ℕ) (n : List ℕ)
    → (child_from (suc k) nodes d n ≡ None → (x : ℕ) → place_at nodes x ≢ Some (entry d n))
    → (b : Bool) → is_at d n inode.place ≡ b → cond b (Some k) (child_from (suc k) nodes d n) ≡ None
    → (x : ℕ) → place_at (inode ∷ nodes) x ≢ Some (entry d n)
missed k inode nodes d n later true t e x = absurd (none-some k (sym e))
missed k inode nodes d n later false t e zero = λ p. false≢true (sym t ∙ ap (is_at d n) p ∙ is_at-entry d n)
missed k inode nodes d n later false t e (suc x) = later e x

-- where none is found, no node stands at the entry
pub child_from-none : (k : ℕ) (nodes : List Inode) (d : ℕ) (n : List ℕ) → child_from k nodes d n ≡ None → (x : ℕ) → place_at nodes x ≢ Some (entry d n)
child_from-none k [] d n e x = λ p. none-some (entry d n) p
child_from-none k (inode ∷ nodes) d n e x = missed k inode nodes d n (λ h. child_from-none (suc k) nodes d n h) (is_at d n inode.place) refl e x

pub place_at-no_child : (nodes : List Inode) (d : ℕ) (n : List ℕ) → child nodes d n ≡ None → (x : ℕ) → place_at nodes x ≢ Some (entry d n)
place_at-no_child nodes d n e = child_from-none 0 nodes d n e

-- in a tree the node at an entry is found
pub child-entry : (nodes : List Inode) → IsTree nodes → (d : ℕ) (n : List ℕ) (x : ℕ) → place_at nodes x ≡ Some (entry d n) → child nodes d n ≡ Some x
child-entry nodes t d n x p = on (child nodes d n) refl
  where
    on : (o : Option ℕ) → child nodes d n ≡ o → child nodes d n ≡ Some x
    on None e = absurd (place_at-no_child nodes d n e x p)
    on (Some c) e = e ∙ ap Some (t.apart c x (entry d n) (place_at-child nodes d n c e) p)

is_some-name_in : (place : Place) → is_some (name_in place.parent (Some place)) ≡ true
is_some-name_in place = ap is_some (cond-true (place.parent == place.parent) (Some place.name) None (eq-eqb place.parent place.parent refl))

-- a directory without entries is nobody's parent
pub no_entries : (nodes : List Inode) (d : ℕ) → has_entries nodes d ≡ false → (x : ℕ) (place : Place) → place_at nodes x ≡ Some place → place.parent ≢ d
no_entries [] d e x place p = absurd (none-some place p)
no_entries (inode ∷ nodes) d e zero place p =
    λ q. false≢true (sym (or_parts (is_some (name_in d inode.place)) (has_entries nodes d) e).0
    ∙ ap (λ o. is_some (name_in d o)) p ∙ ap (λ k. is_some (name_in k (Some place))) (sym q) ∙ is_some-name_in place)
no_entries (inode ∷ nodes) d e (suc x) place p =
    no_entries nodes d (or_parts (is_some (name_in d inode.place)) (has_entries nodes d) e).1 x place p
