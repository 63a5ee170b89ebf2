-- The counts follow the handles: one more is opened, or one is closed.
use Rattle.std.proofs.Common.{◌≡◌, ◌≢◌, ℕ, zero, suc, ◌+◌, ◌-◌, ◌<◌, ◌≤◌, Bool, true, false, cond, ◌==◌, nat_eq, List, [], ◌∷◌, ◌++◌, get_or, set, length, Option, Some, None, is_some, IsSome, count_by, refl, ap, sym, ◌∙◌, eq-eqb, eqb-true, add-zero, arith}
use Rattle.std.specs.Prelude.{slice_get}
use Rattle.std.proofs.lemmas.Bool.{ne_eqb, false≢true, true≢false}
use Rattle.std.proofs.lemmas.List.Sums.{sum_by-set, sum_by-append}
use Rattle.std.proofs.lemmas.Option.{none-some, same_Some}
use Rattle.tree_model.specs.declared.inode.OpenHandle.{OpenHandle}
use Rattle.tree_model.specs.Steps.{is_held_by, node_held}
use Rattle.tree_slab.specs.Counts.{IsCounted, SetsCount}

-- one more handle, of an actor
pub count_opened : (handles : List (Option OpenHandle)) (h : OpenHandle) (b : ℕ)
    → count_by (is_held_by b) (handles ++ Some h ∷ []) ≡ count_by (is_held_by b) handles + cond (h.actor == b) 1 0
count_opened handles h b = sum_by-append (λ place. cond (is_held_by b place) 1 0) handles (Some h ∷ []) ∙ ap (λ n. count_by (is_held_by b) handles + n) (one (h.actor == b))
  where
    one : (t : Bool) → 0 + cond t 1 0 ≡ cond t 1 0
    one true = refl
    one false = refl

abbrev bit : Bool → ℕ
bit t = cond t 1 0

bit-true : (t : Bool) → t ≡ true → bit t ≡ 1
bit-true t e = ap bit e

bit-false : (t : Bool) → t ≡ false → bit t ≡ 0
bit-false t e = ap bit e

slice_get-within : (handles : List (Option OpenHandle)) (h : ℕ) (place : Option OpenHandle) → slice_get handles h ≡ Some place → (h < length handles) × (get_or handles h None ≡ place)
slice_get-within [] h place e = absurd (none-some place e)
slice_get-within (first ∷ handles) zero place e = (omega arith, same_Some first place e)
slice_get-within (first ∷ handles) (suc h) place e = let r = slice_get-within handles h place e in (let less = r.0 in omega arith, r.1)

-- one handle less, of an actor
pub count_closed : (handles : List (Option OpenHandle)) (h : ℕ) (handle : OpenHandle) (b : ℕ) → slice_get handles h ≡ Some (Some handle)
    → count_by (is_held_by b) (set handles h None) + cond (handle.actor == b) 1 0 ≡ count_by (is_held_by b) handles
count_closed handles h handle b there =
    let r = slice_get-within handles h (Some handle) there in
    let both = sum_by-set (λ place. cond (is_held_by b place) 1 0) handles h None None r.0 in
    ap (λ place. count_by (is_held_by b) (set handles h None) + cond (is_held_by b place) 1 0) (sym r.1) ∙ both ∙ add-zero (count_by (is_held_by b) handles)

-- the handle that an actor holds
held_handle : (a : ℕ) (o : Option (Option OpenHandle)) → IsSome (node_held a o) → (handle : OpenHandle) × ((o ≡ Some (Some handle)) × (handle.actor ≡ a))
held_handle a None held = absurd (false≢true held)
held_handle a (Some None) held = absurd (false≢true held)
held_handle a (Some (Some handle)) held = by (handle.actor == a) refl held
  where
    by : (t : Bool) → (handle.actor == a) ≡ t → is_some (cond t (Some handle.node) None) ≡ true → (one : OpenHandle) × ((Some (Some handle) ≡ Some (Some one)) × (one.actor ≡ a))
    by true e held = (handle, (refl, eqb-true handle.actor a e))
    by false e held = absurd (false≢true held)

module _ (handles : List (Option OpenHandle)) (a h : ℕ) (held : IsSome (node_held a (slice_get handles h))) where
  pub held_counts : 1 ≤ count_by (is_held_by a) handles
  held_counts =
      let r = held_handle a (slice_get handles h) held in
      let both = count_closed handles h r.0 a r.1.0 in
      let same : bit (r.0.actor == a) ≡ 1 = bit-true (r.0.actor == a) (eq-eqb r.0.actor a r.1.1) in
      omega (arith, both, same)

  pub held_within : h < length handles
  held_within =
      let r = held_handle a (slice_get handles h) held in
      (slice_get-within handles h (Some r.0) r.1.0).0

  pub counted_closed : (old new : ℕ → ℕ) → IsCounted handles old → SetsCount old new a (old a - 1) → IsCounted (set handles h None) new
  counted_closed old new counted sets b = sets b ∙ value (nat_eq a b) refl
    where
      value : (t : Bool) → nat_eq a b ≡ t → cond t (old a - 1) (old b) ≡ count_by (is_held_by b) (set handles h None)
      value true e =
          let r = held_handle a (slice_get handles h) held in
          let one = eqb-true a b e in
          let both = count_closed handles h r.0 b r.1.0 in
          let same : bit (r.0.actor == b) ≡ 1 = bit-true (r.0.actor == b) (eq-eqb r.0.actor b (r.1.1 ∙ one)) in
          let is_b : old a ≡ count_by (is_held_by b) handles = counted a ∙ ap (λ z. count_by (is_held_by z) handles) one in
          omega (arith, both, same, is_b)
      value false e =
          let r = held_handle a (slice_get handles h) held in
          let ne : r.0.actor ≢ b = λ q. true≢false (sym (eq-eqb a b (sym r.1.1 ∙ q)) ∙ e) in
          let both = count_closed handles h r.0 b r.1.0 in
          let same : bit (r.0.actor == b) ≡ 0 = bit-false (r.0.actor == b) (ne_eqb r.0.actor b ne) in
          let was : old b ≡ count_by (is_held_by b) handles = counted b in
          omega (arith, both, same, was)

module _ (handles : List (Option OpenHandle)) (old new : ℕ → ℕ) where
  pub counted_opened : (a node : ℕ) → IsCounted handles old → SetsCount old new a (old a + 1)
      → IsCounted (handles ++ Some (record { actor = a; node = node }) ∷ []) new
  counted_opened a node counted sets b =
      sets b ∙ value (nat_eq a b) refl ∙ sym (count_opened handles (record { actor = a; node = node }) b)
    where
      value : (t : Bool) → nat_eq a b ≡ t → cond t (old a + 1) (old b) ≡ count_by (is_held_by b) handles + cond (a == b) 1 0
      value true e =
          let one = eqb-true a b e in
          let same : bit (a == b) ≡ 1 = bit-true (a == b) (eq-eqb a b one) in
          let is_b : old a ≡ count_by (is_held_by b) handles = counted a ∙ ap (λ z. count_by (is_held_by z) handles) one in
          omega (arith, same, is_b)
      value false e =
          let same : bit (a == b) ≡ 0 = bit-false (a == b) e in
          let was : old b ≡ count_by (is_held_by b) handles = counted b in
          omega (arith, same, was)
