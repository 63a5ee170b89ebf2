-- Laws of trails and stops: moments may be widened, one may follow another, and one over appended parts is one over the
-- first and one over the second.
use Rattle.std.specs.Prelude.{◌≡◌, ℕ, suc, ◌+◌, ◌≤◌, List, [], ◌∷◌, ◌++◌, Option, Some, None, refl}
use Rattle.std.proofs.Common.{sym, subst, le_trans, le_refl, arith}
use Rattle.std.proofs.Math.Nat.{le-suc}
use Rattle.step_resolver.specs.Asked.{AskedPart, Cur, Up, Named}
use Rattle.step_resolver.specs.TrailLaws.{Split, passed, stopped, with_links}
use Rattle.step_resolver.specs.Trail.{Timeline, Spot, Trail, all, before, stay, top, climb, down, through, into, later, IsOwnFrom, IsChildAt, IsLinkAt}

module _ (timeline : Timeline) where
  pub own_earlier : {m k t : ℕ} → m ≤ k → IsOwnFrom timeline k t → IsOwnFrom timeline m t
  own_earlier le at = record { own = at.own; later = le_trans le at.later }

  child_earlier : {m t c : ℕ} {s : Spot} {n : List ℕ} → m ≤ s.moment → IsChildAt timeline s n t c → IsChildAt timeline (later m s) n t c
  child_earlier le at = record { dir = at.dir; short = at.short; at = own_earlier le at.at; child = at.child }

  link_earlier : {m t b : ℕ} {s : Spot} {n text : List ℕ} → m ≤ s.moment → IsLinkAt timeline s n t text b → IsLinkAt timeline (later m s) n t text b
  link_earlier le at = record { link = at.link; child = child_earlier le at.child; is_link = at.is_link; links = at.links; allowed = at.allowed; within = at.within }

  -- a walk that begins earlier
  pub from_earlier : {m : ℕ} {ps : List AskedPart} {s z : Spot} {next : Option AskedPart} → m ≤ s.moment
      → Trail timeline ps s z next → Trail timeline ps (later m s) z next
  from_earlier le (all k l) = all k (le_trans le l)
  from_earlier le (before k l) = before k (le_trans le l)
  from_earlier le (stay dir t) = stay dir (from_earlier le t)
  from_earlier le (top is t) = top (record { dir = is.dir; root = is.root; names = is.names; absorbed = is.absorbed }) (from_earlier le t)
  from_earlier le (climb t u e names is rest) =
      climb t u e names (record { dir = is.dir; name = is.name; passed = is.passed; at = own_earlier le is.at; parent = is.parent; checked = is.checked; stands = is.stands }) rest
  from_earlier le (down t c is entered rest) = down t c (child_earlier le is) entered rest
  from_earlier le (through t text b mid is sub rest) = through t text b mid (link_earlier le is) sub rest
  from_earlier le (into t text b is sub) = into t text b (link_earlier le is) sub

  -- a trail, then what follows it
  pub appended : {ps qs : List AskedPart} {s mid z : Spot} {next : Option AskedPart} → Trail timeline ps s mid None
      → Trail timeline qs mid z next → Trail timeline (ps ++ qs) s z next
  appended (all k l) u = from_earlier l u
  appended (stay dir t) u = stay dir (appended t u)
  appended (top is t) u = top is (appended t u)
  appended (climb t v e names is rest) u = climb t v e names is (appended rest u)
  appended (down t c is entered rest) u = down t c is entered (appended rest u)
  appended (through t text b mid is sub rest) u = through t text b mid is sub (appended rest u)

  -- a stop stays one where more parts come
  pub stop_of_more : {ps : List AskedPart} {s z : Spot} {p : AskedPart} (qs : List AskedPart) → Trail timeline ps s z (Some p)
      → Trail timeline (ps ++ qs) s z (Some p)
  stop_of_more qs (before k l) = before k l
  stop_of_more qs (stay dir t) = stay dir (stop_of_more qs t)
  stop_of_more qs (top is t) = top is (stop_of_more qs t)
  stop_of_more qs (climb t u e names is rest) = climb t u e names is (stop_of_more qs rest)
  stop_of_more qs (down t c is entered rest) = down t c is entered (stop_of_more qs rest)
  stop_of_more qs (through t text b mid is sub rest) = through t text b mid is sub (stop_of_more qs rest)
  stop_of_more qs (into t text b is sub) = into t text b is sub

module _ (timeline : Timeline) where
  split_on : {ps rs qs : List AskedPart} {s m z : Spot} {next : Option AskedPart}
      → ((y : Spot) (after : Option AskedPart) → Trail timeline ps m y after → Trail timeline rs s y after)
      → Split timeline ps qs m z next → Split timeline rs qs s z next
  split_on onto (passed mid t u) = passed mid (onto mid None t) u
  split_on {z = z} onto (stopped p is t) = stopped p is (onto z (Some p) t)

  pub split : (ps qs : List AskedPart) {s z : Spot} {next : Option AskedPart} → Trail timeline (ps ++ qs) s z next → Split timeline ps qs s z next
  split [] qs {s} t = passed s (all s.moment (le_refl s.moment)) t
  split (Cur ∷ ps) qs (before k l) = stopped Cur refl (before k l)
  split (Cur ∷ ps) qs (stay dir t) = split_on (λ y after u. stay dir u) (split ps qs t)
  split (Up ∷ ps) qs (before k l) = stopped Up refl (before k l)
  split (Up ∷ ps) qs (top is t) = split_on (λ y after u. top is u) (split ps qs t)
  split (Up ∷ ps) qs (climb t v e names is rest) = split_on (λ y after u. climb t v e names is u) (split ps qs rest)
  split (Named follow n ∷ ps) qs (before k l) = stopped (Named follow n) refl (before k l)
  split (Named follow n ∷ ps) qs (down t c is entered rest) = split_on (λ y after u. down t c is entered u) (split ps qs rest)
  split (Named follow n ∷ ps) qs (through t text b mid is sub rest) = split_on (λ y after u. through t text b mid is sub u) (split ps qs rest)
  split (Named follow n ∷ ps) qs (into {p = p} t text b is sub) = stopped p refl (into t text b is sub)

  -- moments never fall
  pub rises : {ps : List AskedPart} {s z : Spot} {next : Option AskedPart} → Trail timeline ps s z next → s.moment ≤ z.moment
  rises (all k l) = l
  rises (before k l) = l
  rises (stay dir t) = rises t
  rises (top is t) = rises t
  rises (climb t u e names is rest) = le_trans is.at.later (le_trans (le-suc t) (le_trans is.checked.later (le_trans (le-suc u) (rises rest))))
  rises (down t c is entered rest) = le_trans is.at.later (le_trans (le-suc t) (rises rest))
  rises (through t text b mid is sub rest) = le_trans is.child.at.later (le_trans (le-suc t) (le_trans (rises sub) (rises rest)))
  rises (into t text b is sub) = le_trans is.child.at.later (le_trans (le-suc t) (rises sub))

  one_fewer : {s : Spot} {n text : List ℕ} {t b k : ℕ} → IsLinkAt timeline s n t text b → k ≤ b → k ≤ s.links
  one_fewer {b = b} {k = k} is le = subst (λ x. k ≤ x) (sym is.links) (le_trans le (le-suc b))

  -- links left never rise
  pub fewer_links : {ps : List AskedPart} {s z : Spot} {next : Option AskedPart} → Trail timeline ps s z next → z.links ≤ s.links
  fewer_links {s = s} (all k l) = le_refl s.links
  fewer_links {s = s} (before k l) = le_refl s.links
  fewer_links (stay dir t) = fewer_links t
  fewer_links (top is t) = fewer_links t
  fewer_links (climb t u e names is rest) = fewer_links rest
  fewer_links (down t c is entered rest) = fewer_links rest
  fewer_links (through t text b mid is sub rest) = le_trans (fewer_links rest) (one_fewer is (fewer_links sub))
  fewer_links (into t text b is sub) = one_fewer is (fewer_links sub)

  one_more : (a b k : ℕ) → a ≡ suc b → a + k ≡ suc (b + k)
  one_more a b k e = omega arith

  child_with : (k : ℕ) {s : Spot} {n : List ℕ} {t c : ℕ} → IsChildAt timeline s n t c → IsChildAt timeline (with_links k s) n t c
  child_with k is = record { dir = is.dir; short = is.short; at = is.at; child = is.child }

  link_with : (k : ℕ) {s : Spot} {n text : List ℕ} {t b : ℕ} → IsLinkAt timeline s n t text b → IsLinkAt timeline (with_links k s) n t text (b + k)
  link_with k {s} {b = b} is =
      record { link = is.link; child = child_with k is.child; is_link = is.is_link; links = one_more s.links b k is.links; allowed = is.allowed; within = is.within }

  -- with more links left
  pub with_more_links : (k : ℕ) {ps : List AskedPart} {s z : Spot} {next : Option AskedPart} → Trail timeline ps s z next
      → Trail timeline ps (with_links k s) (with_links k z) next
  with_more_links k (all m l) = all m l
  with_more_links k (before m l) = before m l
  with_more_links k (stay dir t) = stay dir (with_more_links k t)
  with_more_links k (top is t) = top (record { dir = is.dir; root = is.root; names = is.names; absorbed = is.absorbed }) (with_more_links k t)
  with_more_links k (climb t u e names is rest) =
      climb t u e names (record { dir = is.dir; name = is.name; passed = is.passed; at = is.at; parent = is.parent; checked = is.checked; stands = is.stands }) (with_more_links k rest)
  with_more_links k (down t c is entered rest) = down t c (child_with k is) entered (with_more_links k rest)
  with_more_links k (through t text b mid is sub rest) = through t text (b + k) (with_links k mid) (link_with k is) (with_more_links k sub) (with_more_links k rest)
  with_more_links k (into t text b is sub) = into t text (b + k) (link_with k is) (with_more_links k sub)
