-- A trail over a link's parts and what comes after them, as one through the link: it passes the link's name besides.
use Rattle.std.specs.Prelude.{◌≡◌, ℕ, suc, ◌+◌, List, [], ◌∷◌, ◌++◌, true, Option, Some, None, refl}
use Rattle.std.proofs.Common.{sym, ap, subst, le_refl, arith}
use Rattle.path_text.specs.Text.{parts_of}
use Rattle.step_resolver.specs.Asked.{AskedPart, Cur, Up, Named, followed}
use Rattle.step_resolver.specs.Trail.{Timeline, Spot, Trail, all, before, stay, top, climb, down, through, into, IsLinkAt, from_text}
use Rattle.further_walk_laws.specs.TrailSteps.{passes_in}

-- what leads over appended parts and passes k of them: a trail over the first, then what leads over the second; or a
-- stop in the first
data Split (timeline : Timeline) (ps qs : List AskedPart) (s z : Spot) (next : Option AskedPart) (k : ℕ) : Type 0 where
  passed : (mid : Spot) (u : Trail timeline ps s mid None) (v : Trail timeline qs mid z next) → k ≡ passes_in u + passes_in v
      → Split timeline ps qs s z next k
  stopped : (p : AskedPart) (u : Trail timeline ps s z (Some p)) → next ≡ Some p → k ≡ passes_in u → Split timeline ps qs s z next k

-- a trail that passes one part more than another that passes k
abbrev pub Longer : Timeline → List AskedPart → Spot → Spot → Option AskedPart → ℕ → Type 0
Longer timeline ps s z next k = (t : Trail timeline ps s z next) × (passes_in t ≡ suc k)

one_more : (j k a b l : ℕ) → k ≡ a + b → l ≡ suc (j + a) → suc (j + k) ≡ l + b
one_more j k a b l e f = omega (arith, e, f)

one_more_stopped : (j k a l : ℕ) → k ≡ a → l ≡ suc (j + a) → suc (j + k) ≡ l
one_more_stopped j k a l e f = omega (arith, e, f)

after_more : (k a b l : ℕ) → k ≡ a + b → l ≡ suc a → suc k ≡ l + b
after_more k a b l e f = omega (arith, e, f)

after_more_stopped : (k a l : ℕ) → k ≡ a → l ≡ suc a → suc k ≡ l
after_more_stopped k a l e f = omega (arith, e, f)

none_before : (a : ℕ) → a ≡ 0 + a
none_before a = omega arith

module _ (timeline : Timeline) where
  -- one part and j others come before the first parts
  split_on : {ps rs qs : List AskedPart} {s m z : Spot} {next : Option AskedPart} {k : ℕ} (j : ℕ)
      → ((y : Spot) (after : Option AskedPart) (u : Trail timeline ps m y after) → Longer timeline rs s y after (j + passes_in u))
      → Split timeline ps qs m z next k → Split timeline rs qs s z next (suc (j + k))
  split_on {k = k} j onto (passed mid u v e) =
      let longer = onto mid None u in
      passed mid longer.0 v (one_more j k (passes_in u) (passes_in v) (passes_in longer.0) e longer.1)
  split_on {z = z} {k = k} j onto (stopped p u is e) =
      let longer = onto z (Some p) u in
      stopped p longer.0 is (one_more_stopped j k (passes_in u) (passes_in longer.0) e longer.1)

  -- one part comes before the first parts
  split_after : {ps rs qs : List AskedPart} {s m z : Spot} {next : Option AskedPart} {k : ℕ}
      → ((y : Spot) (after : Option AskedPart) (u : Trail timeline ps m y after) → Longer timeline rs s y after (passes_in u))
      → Split timeline ps qs m z next k → Split timeline rs qs s z next (suc k)
  split_after {k = k} onto (passed mid u v e) =
      let longer = onto mid None u in
      passed mid longer.0 v (after_more k (passes_in u) (passes_in v) (passes_in longer.0) e longer.1)
  split_after {z = z} {k = k} onto (stopped p u is e) =
      let longer = onto z (Some p) u in
      stopped p longer.0 is (after_more_stopped k (passes_in u) (passes_in longer.0) e longer.1)

  split : (ps qs : List AskedPart) {s z : Spot} {next : Option AskedPart} (t : Trail timeline (ps ++ qs) s z next)
      → Split timeline ps qs s z next (passes_in t)
  split [] qs {s} t = passed s (all s.moment (le_refl s.moment)) t (none_before (passes_in t))
  split (Cur ∷ ps) qs (before m le) = stopped Cur (before m le) refl refl
  split (Cur ∷ ps) qs (stay dir t) = split_after (λ y after u. (stay dir u, refl)) (split ps qs t)
  split (Up ∷ ps) qs (before m le) = stopped Up (before m le) refl refl
  split (Up ∷ ps) qs (top is t) = split_after (λ y after u. (top is u, refl)) (split ps qs t)
  split (Up ∷ ps) qs (climb t v e names is rest) = split_after (λ y after u. (climb t v e names is u, refl)) (split ps qs rest)
  split (Named follow n ∷ ps) qs (before m le) = stopped (Named follow n) (before m le) refl refl
  split (Named follow n ∷ ps) qs (down t c is entered rest) = split_after (λ y after u. (down t c is entered u, refl)) (split ps qs rest)
  split (Named follow n ∷ ps) qs (through t text b mid is sub rest) =
      split_on (passes_in sub) (λ y after u. (through t text b mid is sub u, refl)) (split ps qs rest)
  split (Named follow n ∷ ps) qs (into {p = p} t text b is sub) = stopped p (into t text b is sub) refl refl

  -- whatever leads over a link's parts and what comes after them leads over the link's name and what comes after it
  pub through_link : (n text : List ℕ) (s : Spot) (t b : ℕ) → IsLinkAt timeline s n t text b
      → (ps : List AskedPart) (z : Spot) (next : Option AskedPart)
      → (trail : Trail timeline (followed (parts_of text) ++ ps) (from_text timeline s text b (suc t)) z next)
      → Longer timeline (Named true n ∷ ps) s z next (passes_in trail)
  through_link n text s t b is ps z next trail = on (split (followed (parts_of text)) ps trail)
    where
      on : Split timeline (followed (parts_of text)) ps (from_text timeline s text b (suc t)) z next (passes_in trail)
          → Longer timeline (Named true n ∷ ps) s z next (passes_in trail)
      on (passed mid u v e) = (through t text b mid is u v, ap suc (sym e))
      on (stopped p u same e) = subst (λ x. Longer timeline (Named true n ∷ ps) s z x (passes_in trail)) (sym same) (into t text b is u, ap suc (sym e))
