-- How a try ends, and a call.
use Rattle.std.proofs.Common.{◌≡◌, ◌≢◌, ◌≤◌, inl, inr, ℕ, zero, suc, ◌+◌, ◌-◌, ◌*◌, List, [], ◌∷◌, ◌++◌, Bool, true, false, not, ◌&&◌, ◌||◌, if◌then◌else◌, refl, sym, ap, subst, ◌∙◌, arith}
use Rattle.std.specs.Prelude.{◌==◌, nat_lt, Option, Some, None}
use Rattle.std.proofs.Math.Nat.{add-suc, add-zero}
use Rattle.std.proofs.lemmas.Bool.{eqb-true, false≢true}
use Rattle.system_calls.specs.Errors.{EAGAIN}
use Rattle.system_calls.specs.Tries.{next_try, pause_after, pauses_after, TRIES}
use Rattle.system_calls.specs.declared.tries.NextTry.{NextTry}
use Rattle.dialogue.specs.Dialogue.{and_then, without_signals}
use Rattle.dialogue.specs.Holds.{Holds}
use Rattle.dialogue.proofs.HoldLemmas.{Goes, asks_then, both, choose, over, weak}
use Rattle.call_course.specs.Course.{Exchange}
use Rattle.call_course.specs.Promises.{CallsHold, Ends, given}
use Rattle.call_course.specs.Seen.{MayBegin, Seen, at_first, watch}
use Rattle.call_course.specs.Tries.{LAST, a_try, call_from, closing, is_again, judged, made, over as ended, pause_before, root_error}
use Rattle.call_course.specs.declared.runs.Run.{Run}
use Rattle.call_course.specs.declared.things.Facts.{Facts}
use Rattle.call_course.specs.declared.things.Thing.TheVariants.{Begin, CloseProc, LookAtRoot}
use Rattle.call_course.specs.declared.tries.Tried.{Tried}
use Rattle.call_course.proofs.CourseLemmas.{Bare, beside, held_none, is_anew, makes}

-- ---- a try

-- another try follows
record Again (facts : Facts) (t : Seen) : Type 0 where
  held : t.held ≡ []
  owns : t.owns ≡ false
  changed : t.changed ≡ false
  retries : facts.may_retry ≡ true
  why : t.why ≡ EAGAIN

record Tries (facts : Facts) (b p : ℕ) (t : Seen) (e : Tried) : Type 0 where
  begun : t.begun ≡ b
  pauses : t.pauses ≡ p
  again : e.again ≡ true → Again facts t
  leaves : t.begun ≤ TRIES → t.pauses ≤ 18270000 → Ends facts t e

abbrev due_by : Bool → ℕ → NextTry
due_by due pause = record { due = due; pause = pause }

some_again : EAGAIN ≢ 0
some_again = λ zero. absurd cc

due_so : (may others few : Bool) (pause : ℕ)
    → (if may && (others && (true && few)) then due_by true pause else due_by false 0).due ≡ true
    → (may ≡ true) × (others ≡ true)
due_so true true few pause h = (refl, refl)
due_so true false few pause h = absurd cc
due_so false others few pause h = absurd cc

due_is : (tries : ℕ) (may : Bool) (error : ℕ) → (next_try tries may error false).due ≡ true
    → (may ≡ true) × (error ≡ EAGAIN)
due_is tries may error h =
    let is = due_so may (error == EAGAIN) (nat_lt tries TRIES) (pause_after tries) h in
    (is.0, eqb-true error EAGAIN is.1)

retried : (may changed : Bool) → (may && not changed) ≡ true → may ≡ true
retried true changed h = refl
retried false changed h = absurd cc

unchanged : (may changed : Bool) → (may && not changed) ≡ true → changed ≡ false
unchanged may false h = refl
unchanged true true h = absurd cc
unchanged false true h = absurd cc

given_nil : (h : Bool) (v : ℕ) → given h v ++ [] ≡ given h v
given_nil true v = refl
given_nil false v = refl

-- what a try has come to without /proc
abbrev freed : ℕ → ℕ → ℕ → Run → Seen
freed b p o r = beside b p o [] (record r { owns_proc = false })

again_by : (facts : Facts) (left b p o : ℕ) (r : Run) (root : Option ℕ) → Bare r → is_again facts left r ≡ true
    → Again facts (record (freed b p o r) { root = root })
again_by facts left b p o r root bare h =
    let due = due_is (suc LAST - left) (facts.may_retry && not r.changed) r.error h in
    record {
      held = held_none r (bare (λ zero. some_again (sym due.1 ∙ zero)));
      owns = refl;
      changed = unchanged facts.may_retry r.changed due.0;
      retries = retried facts.may_retry r.changed due.0;
      why = due.1;
    }

ends_by : (facts : Facts) (left b p o : ℕ) (r : Run) (root : Option ℕ) → Bare r
    → (facts.error ≢ 0 → r.error ≡ facts.error)
    → (r.error ≢ 0 → r.stepped ≡ false → (error : ℕ) × (root ≡ Some error))
    → Tries facts b p (record (freed b p o r) { root = root }) (ended facts left r)
ends_by facts left b p o r root bare before looked = record {
  begun = refl;
  pauses = refl;
  again = again_by facts left b p o r root bare;
  leaves = λ few pauses. record {
    held = given_nil r.holds r.value;
    value = refl;
    closed = λ some. held_none r (bare some);
    owns = refl;
    why = refl;
    looked = looked;
    own = λ is. absurd (false≢true is);
    fails = λ some none. some (sym (before some) ∙ none);
    before = λ some. inr (before some);
    tries = few;
    pauses = pauses;
  };
}

roots : (facts : Facts) (left b p o : ℕ) (r : Run) (error : ℕ) (well : Bool) → (error == 0) ≡ well → r.error ≢ 0
    → Bare r → (facts.error ≢ 0 → r.error ≡ facts.error)
    → Tries facts b p (record (freed b p o r) { why = (if well then r.error else error); root = Some error })
    (if well then ended facts left r
    else record { value = r.value; error = error; holds = r.holds; is_root = true; again = false })
roots facts left b p o r error true is some bare before =
    ends_by facts left b p o r (Some error) bare before (λ _ _. (error, refl))
roots facts left b p o r error false is some bare before = record {
  begun = refl;
  pauses = refl;
  again = λ off. absurd (false≢true off);
  leaves = λ few pauses. record {
    held = given_nil r.holds r.value;
    value = refl;
    closed = λ _. held_none r (bare some);
    owns = refl;
    why = refl;
    looked = λ _ _. (error, refl);
    own = λ _. refl;
    fails = λ _ none. absurd (grind (arith, is, none));
    before = λ _. inl refl;
    tries = few;
    pauses = pauses;
  };
}

seen_step : (r : Run) → ((r.error == 0) || r.stepped) ≡ true → r.error ≢ 0 → r.stepped ≡ false → ⊥
seen_step r h some off = by_case (r.error == 0) refl h
  where
    by_case : (b : Bool) → (r.error == 0) ≡ b → (b || r.stepped) ≡ true → ⊥
    by_case true is h = some (eqb-true r.error 0 is)
    by_case false is h = false≢true (sym off ∙ h)

neither : (x y : Bool) → (x || y) ≡ false → (x ≡ false) × (y ≡ false)
neither true y h = absurd cc
neither false y h = (refl, h)

no_step : (r : Run) → ((r.error == 0) || r.stepped) ≡ false → r.stepped ≡ false
no_step r h = (neither (r.error == 0) r.stepped h).1

some_error : (r : Run) → ((r.error == 0) || r.stepped) ≡ false → r.error ≢ 0
some_error r h = λ none. let is = (neither (r.error == 0) r.stepped h).0 in absurd (grind (arith, is, none))

judges : (facts : Facts) (left b p o : ℕ) (r : Run) → Bare r → (facts.error ≢ 0 → r.error ≡ facts.error)
    → Goes (watch facts) 1 (freed b p o r) (judged facts left r) (Tries facts b p)
unfolding judged
judges facts left b p o r bare before =
    choose ((r.error == 0) || r.stepped)
    (λ is. over (ends_by facts left b p o r None bare before (λ some off. absurd (seen_step r is some off))))
    (λ off. asks_then 0 LookAtRoot (no_step r off, some_error r off)
    (λ a. over (roots facts left b p o r (root_error a) (root_error a == 0) refl (some_error r off) bare before)))

closes_proc : (facts : Facts) (left b p o : ℕ) (r : Run) → Bare r → (facts.error ≢ 0 → r.error ≡ facts.error)
    → Goes (watch facts) 2 (beside b p o [] r) (closing facts left r) (Tries facts b p)
unfolding closing
closes_proc facts left b p o r bare before =
    choose r.owns_proc (λ is. asks_then 1 CloseProc is (λ _. judges facts left b p o r bare before))
    (λ off. subst (λ own. Goes (watch facts) 2 (beside b p o [] (record r { owns_proc = own })) (judged facts left r)
    (Tries facts b p)) (sym off) (weak 1 (omega arith) (judges facts left b p o r bare before) (λ t e h. h)))

tries : (facts : Facts) (left : ℕ) (s : Seen) → MayBegin facts s
    → Goes (watch facts) 13 s (a_try facts left) (Tries facts (suc s.begun) (s.pauses + pause_before left))
unfolding a_try
tries facts left s m =
    asks_then 12 (Begin (pause_before left)) m
    (λ _. subst (λ u. Goes (watch facts) 12 u (and_then (made facts) (closing facts left))
    (Tries facts (suc s.begun) (s.pauses + pause_before left)))
    (sym (is_anew facts (suc s.begun) (s.pauses + pause_before left) 0 false false s.owns s.changed s.held m.held m.owns
    m.changed))
    (both 10 2 (makes facts (suc s.begun) (s.pauses + pause_before left))
    (λ t r h. subst (λ u. Goes (watch facts) 2 u (closing facts left r)
    (Tries facts (suc s.begun) (s.pauses + pause_before left))) (sym h.at)
    (closes_proc facts left (suc s.begun) (s.pauses + pause_before left) h.others r h.bare h.before))))

-- ---- a call

pauses_grow : (few more : ℕ) → pauses_after few ≤ pauses_after (few + more)
pauses_grow few zero = grind (arith, add-zero few)
pauses_grow few (suc more) =
    let before = pauses_grow few more in
    subst (λ n. pauses_after few ≤ pauses_after n) (sym (add-suc few more)) (omega (arith, before))

pauses_most : (left : ℕ) → left ≤ LAST → pauses_after (LAST - left) ≤ 18270000
pauses_most left h =
    subst (λ n. pauses_after (LAST - left) ≤ pauses_after n) (there left h) (pauses_grow (LAST - left) left)
  where
    there : (left : ℕ) → left ≤ LAST → (LAST - left) + left ≡ LAST
    there left h = omega (arith, h)

-- where the next try begins, behind the others
record Behind (left : ℕ) (s : Seen) : Type 0 where
  few : left ≤ LAST
  begun : s.begun ≡ LAST - left
  pauses : s.pauses + pause_before left ≡ pauses_after (LAST - left)

ends_here : (facts : Facts) (left : ℕ) (s t : Seen) (e : Tried) → Behind left s
    → Tries facts (suc s.begun) (s.pauses + pause_before left) t e → Ends facts t e
ends_here facts left s t e at h =
    let most = pauses_most left at.few in
    let few = at.begun in
    let begun = h.begun in
    h.leaves (omega (arith, few, begun)) (subst (λ n. n ≤ 18270000) (sym (h.pauses ∙ at.pauses)) most)

paused : (tries : ℕ) → tries ≤ LAST → (next_try tries true EAGAIN false).pause ≡ pause_after tries
paused tries h = by_case (nat_lt tries TRIES) refl
  where
    by_case : (b : Bool) → nat_lt tries TRIES ≡ b
        → (if b then due_by true (pause_after tries) else due_by false 0).pause ≡ pause_after tries
    by_case true is = refl
    by_case false is = absurd (grind (arith, is, h))

goes_behind : (facts : Facts) (left : ℕ) (s t : Seen) (e : Tried) → Behind (suc left) s
    → Tries facts (suc s.begun) (s.pauses + pause_before (suc left)) t e → Behind left t
goes_behind facts left s t e at h =
    let few = at.few in
    let one = next left few in
    record {
      few = omega (arith, few);
      begun = h.begun ∙ ap suc at.begun ∙ sym one;
      pauses =
          ap (λ n. n + pause_before left) (h.pauses ∙ at.pauses)
          ∙ ap (λ n. pauses_after (LAST - suc left) + n) (paused (LAST - left) (omega (arith, few)))
          ∙ ap (λ n. pauses_after (LAST - suc left) + pause_after n) one
          ∙ ap pauses_after (sym one);
    }
  where
    next : (left : ℕ) → suc left ≤ LAST → LAST - left ≡ suc (LAST - suc left)
    next left few = omega (arith, few)

begins : (facts : Facts) (t : Seen) → Again facts t → MayBegin facts t
begins facts t h =
    record { held = h.held; owns = h.owns; changed = h.changed; why = inr (h.retries, h.why) }

calls : (facts : Facts) (left : ℕ) (s : Seen) → MayBegin facts s → Behind left s
    → Goes (watch facts) (13 * suc left) s (call_from facts left) (Ends facts)
unfolding call_from
calls facts zero s m at =
    weak 13 (omega arith) (tries facts zero s m) (λ t e h. ends_here facts zero s t e at h)
calls facts (suc left) s m at =
    weak (13 + 13 * suc left) (omega arith)
    (both 13 (13 * suc left) (tries facts (suc left) s m)
    (λ t e h. choose e.again
    (λ is. calls facts left t (begins facts t (h.again is)) (goes_behind facts left s t e at h))
    (λ _. over (ends_here facts (suc left) s t e at h))))
    (λ t e h. h)

all_come : (es : List Exchange) → without_signals es ≡ es
all_come [] = refl
all_come (x ∷ es) = ap (λ xs. x ∷ xs) (all_come es)

pub calls-hold : CallsHold
calls-hold facts es e whole =
    subst (λ xs. Holds (watch facts) (13 * TRIES) at_first xs (λ s. Ends facts s e)) (all_come es)
    ((calls facts LAST at_first (record { held = refl; owns = refl; changed = refl; why = inl refl })
    (record { few = omega arith; begun = refl; pauses = refl })).each es e whole)
