-- Things whose handles are numbered, and lists of them.
use Rattle.std.proofs.Common.{◌≡◌, ℕ, List, [], ◌∷◌, ◌++◌, length, append_assoc, refl, sym, ap, ◌∙◌}
use Rattle.std.specs.Prelude.{map}
use Rattle.std.specs.List.{flat_map}
use Rattle.root_ops.specs.Renamed.{numbers_by}
use Rattle.root_ops.proofs.HandlesRenamed.{same_long, numbers_apart}

module _ {A : Type 0} (by : (ℕ → ℕ) → A → A) (handles : A → List ℕ) where
  -- with other numbers it has these handles
  abbrev pub KeepsHandles : Type 0
  KeepsHandles = (f : ℕ → ℕ) (a : A) → handles (by f a) ≡ numbers_by f (handles a)

  -- what is the same but for the numbers, and gets one number for each handle in both, is the same with these
  abbrev pub Agree : Type 0
  Agree = (f g : ℕ → ℕ) (a b : A) → by (λ h. 0) a ≡ by (λ h. 0) b → numbers_by f (handles a) ≡ numbers_by g (handles b) → by f a ≡ by g b

  -- so it is of what comes first in a list of handles
  abbrev pub AgreeFirst : Type 0
  AgreeFirst = (f g : ℕ → ℕ) (a b : A) (more others : List ℕ) → by (λ h. 0) a ≡ by (λ h. 0) b
      → numbers_by f (handles a ++ more) ≡ numbers_by g (handles b ++ others) → (by f a ≡ by g b) × (numbers_by f more ≡ numbers_by g others)

  like_long : KeepsHandles → (a b : A) → by (λ h. 0) a ≡ by (λ h. 0) b → length (handles a) ≡ length (handles b)
  like_long keeps a b like = same_long (handles a) (handles b)
      (sym (keeps (λ h. 0) a) ∙ (ap handles like ∙ keeps (λ h. 0) b))

  pub agree_first : KeepsHandles → Agree → AgreeFirst
  agree_first keeps agree f g a b more others like e =
      let apart = numbers_apart f g (handles a) (handles b) more others (like_long keeps a b like) e in
      (agree f g a b like apart.0, apart.1)

  pub all_agree_first : AgreeFirst → (f g : ℕ → ℕ) (xs ys : List A) (more others : List ℕ) → map (by (λ h. 0)) xs ≡ map (by (λ h. 0)) ys
      → numbers_by f (flat_map handles xs ++ more) ≡ numbers_by g (flat_map handles ys ++ others) → (map (by f) xs ≡ map (by g) ys) × (numbers_by f more ≡ numbers_by g others)
  all_agree_first agree f g [] [] more others like e = (refl, e)
  all_agree_first agree f g [] (y ∷ ys) more others like e = cc
  all_agree_first agree f g (x ∷ xs) [] more others like e = cc
  all_agree_first agree f g (x ∷ xs) (y ∷ ys) more others like e =
      let like_x : by (λ h. 0) x ≡ by (λ h. 0) y = cc in
      let like_xs : map (by (λ h. 0)) xs ≡ map (by (λ h. 0)) ys = cc in
      let there : numbers_by f (handles x ++ (flat_map handles xs ++ more)) ≡ numbers_by g (handles y ++ (flat_map handles ys ++ others)) =
      ap (numbers_by f) (sym (append_assoc (handles x) (flat_map handles xs) more)) ∙ (e ∙ ap (numbers_by g) (append_assoc (handles y) (flat_map handles ys) others)) in
      let first = agree f g x y (flat_map handles xs ++ more) (flat_map handles ys ++ others) like_x there in
      let rest = all_agree_first agree f g xs ys more others like_xs first.1 in
      let same_x : by f x ≡ by g y = first.0 in
      let same_xs : map (by f) xs ≡ map (by g) ys = rest.0 in
      (cc, rest.1)
