-- Lists made of others, their members each once.
use Rattle.std.specs.Prelude.{◌≡◌, ◌⊎◌, List, [], ◌∷◌, map, flat_map, refl}
use Rattle.std.proofs.Common.{◌∙◌, inl, inr, sym, ap, subst, ⊎_elim}
use Rattle.schedule_graph.specs.Counted.{IsAmong, EachOnce}
use Rattle.schedule_graph.proofs.Among.{among_left, among_right, among_split, once_joined}

-- ---- what a map makes of them

module _ {A B : Type 0} (f : A → B) where
  pub mapped : (x : A) (xs : List A) → IsAmong x xs → IsAmong (f x) (map f xs)
  mapped x [] h = absurd h
  mapped x (y ∷ ys) h = ⊎_elim (λ e. inl (ap f e)) (λ q. inr (mapped x ys q)) h

  pub unmapped : (y : B) (xs : List A) → IsAmong y (map f xs) → (x : A) × (IsAmong x xs × (y ≡ f x))
  unmapped y [] h = absurd h
  unmapped y (x ∷ xs) h = ⊎_elim (λ e. (x, (inl refl, e))) (λ q. let found = unmapped y xs q in (found.0, (inr found.1.0, found.1.1))) h

  pub once_unmapped : (xs : List A) → EachOnce (map f xs) → EachOnce xs
  once_unmapped [] once = tt
  once_unmapped (x ∷ xs) once = ((λ h. once.0 (mapped x xs h)), once_unmapped xs once.1)

  -- of two members one would stand there twice
  pub one_of_each : (x y : A) (xs : List A) → EachOnce (map f xs) → IsAmong x xs → IsAmong y xs → f x ≡ f y → x ≡ y
  one_of_each x y [] once h k e = absurd h
  one_of_each x y (z ∷ zs) once h k e =
      ⊎_elim
      (λ p. ⊎_elim (λ q. p ∙ sym q) (λ q. absurd (once.0 (subst (λ b. IsAmong b (map f zs)) (sym e ∙ ap f p) (mapped y zs q)))) k)
      (λ p. ⊎_elim (λ q. absurd (once.0 (subst (λ b. IsAmong b (map f zs)) (e ∙ ap f q) (mapped x zs p)))) (λ q. one_of_each x y zs once.1 p q e) k)
      h

-- ---- lists put together

module _ {A B : Type 0} (f : A → List B) where
  pub in_flat : (x : A) (b : B) (xs : List A) → IsAmong x xs → IsAmong b (f x) → IsAmong b (flat_map f xs)
  in_flat x b [] h k = absurd h
  in_flat x b (y ∷ ys) h k =
      ⊎_elim (λ e. among_left b (f y) (flat_map f ys) (subst (λ z. IsAmong b (f z)) e k))
      (λ q. among_right b (f y) (flat_map f ys) (in_flat x b ys q k)) h

  pub of_flat : (b : B) (xs : List A) → IsAmong b (flat_map f xs) → (x : A) × (IsAmong x xs × IsAmong b (f x))
  of_flat b [] h = absurd h
  of_flat b (x ∷ xs) h =
      ⊎_elim (λ q. (x, (inl refl, q))) (λ q. let found = of_flat b xs q in (found.0, (inr found.1.0, found.1.1)))
      (among_split b (f x) (flat_map f xs) h)

  pub once_flat : (xs : List A) → EachOnce xs → ((x : A) → IsAmong x xs → EachOnce (f x))
      → ((x y : A) (b : B) → IsAmong x xs → IsAmong y xs → IsAmong b (f x) → IsAmong b (f y) → x ≡ y) → EachOnce (flat_map f xs)
  once_flat [] once each apart = tt
  once_flat (x ∷ xs) once each apart =
      once_joined (f x) (flat_map f xs) (each x (inl refl))
      (once_flat xs once.1 (λ y h. each y (inr h)) (λ y z b h k p q. apart y z b (inr h) (inr k) p q))
      (λ b p q. let found = of_flat b xs q in
      once.0 (subst (λ y. IsAmong y xs) (sym (apart x found.0 b (inl refl) (inr found.1.0) p found.1.1)) found.1.0))

-- ---- those of which it holds

pub record Picked {A : Type 0} (Q : A → Type 0) (xs : List A) : Type 0 where
  pub those : List A
  pub each : (x : A) → IsAmong x those → IsAmong x xs × Q x
  pub all : (x : A) → IsAmong x xs → Q x → IsAmong x those
  pub once : EachOnce those

module _ {A : Type 0} (Q : A → Type 0) where
  more_picked : (x : A) (xs : List A) → (IsAmong x xs → ⊥) → Q x → Picked Q xs → Picked Q (x ∷ xs)
  more_picked x xs new q rest = record {
    those = x ∷ rest.those;
    each = λ y h. ⊎_elim (λ e. (inl e, subst Q (sym e) q)) (λ k. (inr (rest.each y k).0, (rest.each y k).1)) h;
    all = λ y h r. ⊎_elim (λ e. inl e) (λ k. inr (rest.all y k r)) h;
    once = ((λ h. new (rest.each x h).0), rest.once);
  }

  none_picked : (x : A) (xs : List A) → (Q x → ⊥) → Picked Q xs → Picked Q (x ∷ xs)
  none_picked x xs none rest = record {
    those = rest.those;
    each = λ y h. (inr (rest.each y h).0, (rest.each y h).1);
    all = λ y h r. ⊎_elim (λ e. absurd (none (subst Q e r))) (λ k. rest.all y k r) h;
    once = rest.once;
  }

  pub pick : (xs : List A) → EachOnce xs → ((x : A) → IsAmong x xs → Q x ⊎ (Q x → ⊥)) → Picked Q xs
  pick [] once decide = record { those = []; each = λ x h. absurd h; all = λ x h q. h; once = tt }
  pick (x ∷ xs) once decide =
      let rest : Picked Q xs = pick xs once.1 (λ y h. decide y (inr h)) in
      ⊎_elim (λ q. more_picked x xs once.0 q rest) (λ none. none_picked x xs none rest) (decide x (inl refl))
