-- The items of a list that were read so far, and those that are left.
use Rattle.std.proofs.Common.{◌≡◌, ℕ, ◌+◌, ◌<◌, ◌≤◌, List, [], ◌∷◌, ◌++◌, length, get_or, drop, sym, ap, ◌∙◌, subst, append_assoc, append-nil}
use Rattle.std.proofs.lemmas.List.{drop_all, drop_more}
use Rattle.serde_json.specs.Data.{Data, Items, item}
use Rattle.serde_json.specs.View.{view, items_view}
use Rattle.serde_json.specs.declared.value.Value.{Value}
use Rattle.explore_parts.specs.Options.{IsUnsaid}
use Rattle.explore_parts.specs.PartRead.{ItemsSay}

module _ {A : Type 0} (Says : Data → A → Type 0) where
  -- what was read of the first k items, with what the others say, is what all say; and where all say something the others do
  pub record AreReadSoFar (values : List Value) (k : ℕ) (xs : List A) : Type 0 where
    pub joins : (ys : List A) → ItemsSay Says (items_view (drop k values)) ys
        → ItemsSay Says (items_view values) (xs ++ ys)
    pub leaves : (zs : List A) → ItemsSay Says (items_view values) zs
        → (ys : List A) × ItemsSay Says (items_view (drop k values)) ys

  abbrev LeftSay : List Value → List A → Type 0
  LeftSay left ys = ItemsSay Says (items_view left) ys

  left_at : (values : List Value) (k : ℕ) (v : Value) → k < length values → v ≡ get_or values k v
      → drop k values ≡ v ∷ drop (k + 1) values
  left_at values k v within is = drop_more values k v within ∙ ap (λ (w : Value). w ∷ drop (k + 1) values) (sym is)

  head_of : (d : Data) (ds : Items) (ys : List A) → ItemsSay Says (item d ds) ys → (y : A) × Says d y
  head_of d ds [] h = absurd h
  head_of d ds (y ∷ ys) h = (y, h.0)

  tail_of : (d : Data) (ds : Items) (ys : List A) → ItemsSay Says (item d ds) ys → (zs : List A) × ItemsSay Says ds zs
  tail_of d ds [] h = absurd h
  tail_of d ds (y ∷ ys) h = (ys, h.1)

  pub goes_on : (values : List Value) (k : ℕ) (xs : List A) (v : Value) (x : A) (more : List A)
      → k < length values → v ≡ get_or values k v → Says (view v) x → more ≡ xs ++ x ∷ [] → AreReadSoFar values k xs
      → AreReadSoFar values (k + 1) more
  goes_on values k xs v x more within is said added so_far =
      let left = left_at values k v within is in
      subst (λ (zs : List A). AreReadSoFar values (k + 1) zs) (sym added) (record {
        joins = λ ys h. subst (λ (zs : List A). ItemsSay Says (items_view values) zs)
            (sym (append_assoc xs (x ∷ []) ys))
            (so_far.joins (x ∷ ys) (subst (λ (vs : List Value). LeftSay vs (x ∷ ys)) (sym left) (said, h)));
        leaves = λ zs h. let rest = so_far.leaves zs h in
            tail_of (view v) (items_view (drop (k + 1) values)) rest.0
            (subst (λ (vs : List Value). LeftSay vs rest.0) left rest.1);
      })

  pub stops : (values : List Value) (k : ℕ) (xs : List A) (v : Value) → k < length values → v ≡ get_or values k v
      → IsUnsaid (Says (view v))
      → AreReadSoFar values k xs → IsUnsaid (ItemsSay Says (items_view values))
  stops values k xs v within is unsaid so_far zs h =
      let rest = so_far.leaves zs h in
      let first = head_of (view v) (items_view (drop (k + 1) values)) rest.0
      (subst (λ (vs : List Value). LeftSay vs rest.0) (left_at values k v within is) rest.1) in
      unsaid first.0 first.1

  pub ends : (values : List Value) (k : ℕ) (xs : List A) → length values ≤ k → AreReadSoFar values k xs
      → ItemsSay Says (items_view values) xs
  ends values k xs over so_far =
      subst (λ (zs : List A). ItemsSay Says (items_view values) zs) (append-nil xs)
      (so_far.joins [] (subst (λ (vs : List Value). LeftSay vs []) (sym (drop_all k values over)) tt))
