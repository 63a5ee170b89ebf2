-- The book's history against the sessions' logs, event by event.
use Rattle.std.proofs.Common.{◌≡◌, ℕ, zero, suc, ◌+◌, ◌==◌, ◌<◌, ◌≤◌, ◌||◌, Bool, true, false, not, nat_lt, cond, if◌then◌else◌, List, [], ◌∷◌, ◌++◌, take, length, slice_get, Option, Some, None, IfSome, IsTrue, ◌↔◌, refl, sym, ap, ◌∙◌, subst, append-nil, arith}
use Rattle.std.specs.List.{list_any}
use Rattle.std.proofs.lemmas.Bool.{false≢true, eqb-true, eqb-false, ltb-true, ltb-false, eq-eqb, ne_eqb, not-false}
use Rattle.std.proofs.lemmas.List.{length-take-le}
use Rattle.std.proofs.lemmas.List.Elements.{filter-append}
use Rattle.std.proofs.lemmas.Option.{slice_get_past, slice_get_within}
use Rattle.path_text.proofs.TextLemmas.{or_false}
use Rattle.tree_model.specs.declared.answer.Event.{Event}
use Rattle.tree_model.specs.History.{IsLegal, after_events}
use Rattle.tree_model.specs.State.{State}
use Rattle.step_resolver.specs.WalkHistory.{own_events}
use Rattle.step_resolver.proofs.Meaning.PlainResolution.{slice_get-some}
use Rattle.bulk_ops.proofs.OwnEvents.{own_later}
use Rattle.race_core.specs.Book.{BookedHistory, tree_now}
use Rattle.race_core.proofs.WorldSoFar.{got_after}
use Rattle.sessions.specs.Close.{StoppedView, or_else, least, is_strange, is_strange_at, is_stranger, is_missing, FitsAt, AllFit, IsClosable, IsClosed}
use Rattle.sessions.specs.Session.{SessionView}

-- ---- the least number

least_stays : (test : ℕ → Bool) (k n i : ℕ) → least test k ≡ Some i → k ≤ n → least test n ≡ Some i
least_stays test k zero i e within =
    let none : k ≡ 0 = omega (arith, within) in
    subst (λ m. least test m ≡ Some i) none e
least_stays test k (suc n) i e within = on (k == suc n) refl (λ less. least_stays test k n i e less)
  where
    on : (b : Bool) → (k == suc n) ≡ b → (k ≤ n → least test n ≡ Some i) → least test (suc n) ≡ Some i
    on true q lower = subst (λ m. least test m ≡ Some i) (eqb-true k (suc n) q) e
    on false q lower =
        let ne = eqb-false k (suc n) q in
        let less : k ≤ n = omega (arith, within, ne) in
        ap (λ o. or_else o (if test n then Some n else None)) (lower less)

pub least_found : (test : ℕ → Bool) (n i : ℕ) → least test i ≡ None → test i ≡ true → i < n → least test n ≡ Some i
least_found test n i none here within =
    let next : suc i ≤ n = omega (arith, within) in
    least_stays test (suc i) n i
    (ap (λ o. or_else o (if test i then Some i else None)) none
    ∙ ap (λ (b : Bool). if b then Some i else None) here) next

pub least_more : (test : ℕ → Bool) (i : ℕ) → least test i ≡ None → test i ≡ false → least test (i + 1) ≡ None
least_more test i none here =
    let next : suc i ≡ i + 1 = omega arith in
    subst (λ m. least test m ≡ None) next
    (ap (λ o. or_else o (if test i then Some i else None)) none
    ∙ ap (λ (b : Bool). if b then Some i else None) here)

none_first : (o other : Option ℕ) → or_else o other ≡ None → (o ≡ None) × (other ≡ None)
none_first None other e = (refl, e)
none_first (Some i) other e = cc (e)

not_so : (i : ℕ) (b : Bool) → (if b then Some i else None) ≡ None → b ≡ false
not_so i true e = cc (e)
not_so i false e = refl

pub least_none : (test : ℕ → Bool) (n i : ℕ) → least test n ≡ None → i < n → test i ≡ false
least_none test zero i e within = absurd (omega (arith, within))
least_none test (suc n) i e within =
    on (i == n) refl (λ less. least_none test n i (none_first (least test n) _ e).0 less)
  where
    on : (b : Bool) → (i == n) ≡ b → (i < n → test i ≡ false) → test i ≡ false
    on true q lower = ap test (eqb-true i n q) ∙ not_so n (test n) (none_first (least test n) _ e).1
    on false q lower =
        let ne = eqb-false i n q in
        let less : i < n = omega (arith, within, ne) in
        lower less

-- what holds below a number and there holds below the next
pub below_more : (Q : ℕ → Type 0) (i : ℕ) → ((j : ℕ) → j < i → Q j) → Q i → (j : ℕ) → j < i + 1 → Q j
below_more Q i below here j within = on (j == i) refl
  where
    on : (b : Bool) → (j == i) ≡ b → Q j
    on true q = subst Q (sym (eqb-true j i q)) here
    on false q =
        let ne = eqb-false j i q in
        let less : j < i = omega (arith, within, ne) in
        below j less

pub all_fit_below : (z : StoppedView) (ss : List SessionView) (i n : ℕ) → length ss ≤ n
    → ((p : ℕ) → p < n → FitsAt z i (slice_get ss p)) → AllFit z ss i
all_fit_below z ss i n long below p = on (nat_lt p n) refl
  where
    on : (b : Bool) → nat_lt p n ≡ b → FitsAt z i (slice_get ss p)
    on true q = below p (ltb-true p n q)
    on false q =
        let past : length ss ≤ p = omega (arith, long, ltb-false p n q) in
        subst (FitsAt z i) (sym (slice_get_past ss p past)) tt

-- ---- an actor's own events

-- a list at one of its places
split_at : {A : Type 0} (xs : List A) (i : ℕ) (x : A) → slice_get xs i ≡ Some x
    → (rest : List A) × ((xs ≡ take i xs ++ x ∷ rest) × (take (suc i) xs ≡ take i xs ++ x ∷ []))
split_at [] i x e = cc (e)
split_at (y ∷ xs) zero x e =
    let same : y ≡ x = cc (e) in
    (xs, (ap (λ z. z ∷ xs) same, ap (λ z. z ∷ []) same))
split_at (y ∷ xs) (suc i) x e =
    let later = split_at xs i x e in
    (later.0, (ap (λ zs. y ∷ zs) later.1.0, ap (λ zs. y ∷ zs) later.1.1))

own_one : (a : ℕ) (event : Event) (rest : List Event) → event.actor ≡ a
    → own_events a (event ∷ rest) ≡ event ∷ own_events a rest
own_one a event rest e = ap (λ b. cond b (event ∷ own_events a rest) (own_events a rest)) (eq-eqb event.actor a e)

module _ (a at next : ℕ) (es log : List Event) (within : at < length es) (short : next ≤ length log)
    (same : take next log ≡ own_events a (take at es)) where
  -- another's event
  pub not_own : (b : Bool) → IfSome (slice_get es at) (λ event. IsTrue b ↔ (event.actor ≡ a)) → b ≡ false
      → take next log ≡ own_events a (take (at + 1) es)
  not_own b who other =
      let here = slice_get-some es at within in
      let e = here.0 in
      let at_e = here.1 in
      let is_b : IsTrue b ↔ (e.actor ≡ a) = subst (λ o. IfSome o (λ event. IsTrue b ↔ (event.actor ≡ a))) at_e who in
      let next_at : suc at ≡ at + 1 = omega arith in
      let none : own_events a (e ∷ []) ≡ [] =
      own_later a e [] (ne_eqb e.actor a (λ q. false≢true (sym other ∙ is_b.1 q))) in
      same ∙ sym (append-nil (own_events a (take at es))) ∙ ap (λ fs. own_events a (take at es) ++ fs) (sym none)
      ∙ sym (filter-append (λ event. event.actor == a) (take at es) (e ∷ []))
      ∙ ap (own_events a) (sym (split_at es at e at_e).1.1) ∙ ap (λ n. own_events a (take n es)) next_at

  -- its own, which the log has too
  pub is_own : (b : Bool) → IfSome (slice_get es at) (λ event. IsTrue b ↔ (event.actor ≡ a)) → b ≡ true
      → slice_get log next ≡ slice_get es at
      → (next + 1 ≤ length log) × (take (next + 1) log ≡ own_events a (take (at + 1) es))
  is_own b who own found =
      let here = slice_get-some es at within in
      let e = here.0 in
      let at_e = here.1 in
      let is_b : IsTrue b ↔ (e.actor ≡ a) = subst (λ o. IfSome o (λ event. IsTrue b ↔ (event.actor ≡ a))) at_e who in
      let next_at : suc at ≡ at + 1 = omega arith in
      let next_next : suc next ≡ next + 1 = omega arith in
      let one : own_events a (e ∷ []) ≡ e ∷ [] = own_one a e [] (is_b.0 own) in
      let in_log : next < length log = slice_get_within log next e (found ∙ at_e) in (
        omega (arith, in_log),
        ap (λ n. take n log) (sym next_next) ∙ (split_at log next e (found ∙ at_e)).1.1 ∙ ap (λ fs. fs ++ e ∷ []) same
            ∙ ap (λ fs. own_events a (take at es) ++ fs) (sym one)
            ∙ sym (filter-append (λ event. event.actor == a) (take at es) (e ∷ []))
            ∙ ap (own_events a) (sym (split_at es at e at_e).1.1) ∙ ap (λ n. own_events a (take n es)) next_at,
      )

  -- its own, which the log lacks
  pub lacks : (b : Bool) → IfSome (slice_get es at) (λ event. IsTrue b ↔ (event.actor ≡ a)) → b ≡ true
      → (slice_get log next ≡ slice_get es at → ⊥) → log ≡ own_events a es → ⊥
  lacks b who own lost all =
      let here = slice_get-some es at within in
      let e = here.0 in
      let at_e = here.1 in
      let is_b : IsTrue b ↔ (e.actor ≡ a) = subst (λ o. IfSome o (λ event. IsTrue b ↔ (event.actor ≡ a))) at_e who in
      let cut = split_at es at e at_e in
      let whole : own_events a es ≡ take next log ++ e ∷ own_events a cut.0 =
      ap (own_events a) cut.1.0 ∙ filter-append (λ event. event.actor == a) (take at es) (e ∷ cut.0)
      ∙ ap (λ fs. own_events a (take at es) ++ fs) (own_one a e cut.0 (is_b.0 own))
      ∙ ap (λ fs. fs ++ e ∷ own_events a cut.0) (sym same) in
      let size : length (take next log) ≡ next = length-take-le next log short in
      lost (ap (λ l. slice_get l next) (all ∙ whole)
      ∙ ap (slice_get (take next log ++ e ∷ own_events a cut.0)) (sym size)
      ∙ got_after (take next log) e (own_events a cut.0) ∙ sym at_e)

-- ---- a closed service

any_found : (test : SessionView → Bool) (ss : List SessionView) → list_any test ss ≡ true
    → (p : ℕ) × ((s : SessionView) × ((slice_get ss p ≡ Some s) × (test s ≡ true)))
any_found test [] e = cc (e)
any_found test (s ∷ ss) e = on (test s) refl (any_found test ss)
  where
    on : (b : Bool) → test s ≡ b
        → (list_any test ss ≡ true → (p : ℕ) × ((t : SessionView) × ((slice_get ss p ≡ Some t) × (test t ≡ true))))
        → (p : ℕ) × ((t : SessionView) × ((slice_get (s ∷ ss) p ≡ Some t) × (test t ≡ true)))
    on true q later = (0, (s, (refl, q)))
    on false q later =
        let found = later (sym (ap (λ b. b || list_any test ss) q) ∙ e) in
        (suc found.0, (found.1.0, found.1.1))

module _ (z : StoppedView) (ss : List SessionView) (is : IsClosable z ss) where
  numbered : (p : ℕ) (s : SessionView) → slice_get ss p ≡ Some s → s.owner.actor < z.count
  numbered p s at =
      let plain : is_stranger z ss p ≡ false =
      least_none (is_stranger z ss) (length ss) p is.none_strange (slice_get_within ss p s at) in
      let none : is_strange z (take p ss) s ≡ false = sym (ap (is_strange_at z (take p ss)) at) ∙ plain in
      let twice = list_any (λ t. t.owner.actor == s.owner.actor) (take p ss) in
      let two = or_false (not (s.owner.tag == z.tag) || not (nat_lt s.owner.actor z.count)) twice none in
      let within = (or_false (not (s.owner.tag == z.tag)) (not (nat_lt s.owner.actor z.count)) two.0).1 in
      ltb-true s.owner.actor z.count (not-false (nat_lt s.owner.actor z.count) within)

  own_log : (p : ℕ) (s : SessionView) → slice_get ss p ≡ Some s → s.log ≡ own_events s.owner.actor z.book.events
  own_log p s at = (subst (FitsAt z s.owner.actor) at (is.fit s.owner.actor (numbered p s at) p) refl).0

  present : (i : ℕ) → i < z.count → (p : ℕ) × ((s : SessionView) × ((slice_get ss p ≡ Some s) × (s.owner.actor ≡ i)))
  present i within =
      let here = any_found (λ s. s.owner.actor == i) ss
      (not-false (list_any (λ s. s.owner.actor == i) ss)
      (least_none (is_missing ss) z.count i is.none_missing within)) in
      (here.0, (here.1.0, (here.1.1.0, eqb-true here.1.0.owner.actor i here.1.1.1)))

  closes : (tree : State) (events : List Event) (opening : State) → tree ≡ tree_now z.book → events ≡ z.book.events
      → opening ≡ z.book.opening
      → IsLegal z.book.opening z.book.events → IsClosed z ss tree events opening
  closes tree events opening is_tree is_events is_opening legal = record {
    same_opening = is_opening ∙ sym is.history.0;
    legal = rw is_events (rw is_opening legal);
    last = is_tree ∙ ap (λ o. after_events o z.book.events) (sym is_opening)
        ∙ ap (after_events opening) (sym is_events);
    own = λ p s at. own_log p s at ∙ ap (own_events s.owner.actor) (sym is_events);
    known = rw is_events is.history.1.1;
    all_there = present;
  }

  pub closes_book : (tree : State) (events : List Event) (opening : State) (book : BookedHistory) → book ≡ z.book
      → tree ≡ tree_now book → events ≡ book.events → opening ≡ book.opening
      → IsLegal book.opening book.events → IsClosed z ss tree events opening
  closes_book tree events opening book same is_tree is_events is_opening legal =
      closes tree events opening (is_tree ∙ ap tree_now same) (is_events ∙ ap (λ (b : BookedHistory). b.events) same)
      (is_opening ∙ ap (λ (b : BookedHistory). b.opening) same)
      (subst (λ (b : BookedHistory). IsLegal b.opening b.events) same legal)
