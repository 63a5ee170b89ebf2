-- What each part of a call leaves behind it.
use Rattle.std.proofs.Common.{◌≡◌, ◌≢◌, ℕ, ◌-◌, List, [], ◌∷◌, ◌++◌, Bool, true, false, not, ◌&&◌, ◌||◌, if◌then◌else◌, refl, sym, ap, subst, ◌∙◌, arith}
use Rattle.std.proofs.lemmas.Bool.{eqb-true, false≢true}
use Rattle.std.specs.Prelude.{◌==◌, None}
use Rattle.system_calls.specs.Errors.{EAGAIN, ENOSYS, ENOTDIR}
use Rattle.system_calls.specs.Held.{without}
use Rattle.dialogue.specs.Dialogue.{and_then, ends}
use Rattle.dialogue.specs.Holds.{is_in}
use Rattle.dialogue.proofs.HeldLemmas.{first_in, second_in, without_first, without_second}
use Rattle.dialogue.proofs.HoldLemmas.{Goes, asks_then, both, choose, over, weak}
use Rattle.call_course.specs.Course.{Course, doing}
use Rattle.call_course.specs.Promises.{given}
use Rattle.call_course.specs.Runs.{by_one, close_left, closed, conversed, is_left, new_run, noted, placed, replied, took, reply_error, walked, COUNT, DONE, OPENED, TEXT}
use Rattle.call_course.specs.Seen.{Seen, conversed_by, known, seen_by, taken_by, watch}
use Rattle.call_course.specs.Tries.{by_another, made, may_go_by_another, once_more}
use Rattle.call_course.specs.declared.runs.Run.{Run}
use Rattle.call_course.specs.declared.things.Answer.{Answer}
use Rattle.call_course.specs.declared.things.Facts.{Facts}
use Rattle.call_course.specs.declared.things.Thing.TheVariants.{Place, Converse, Take, LetGo, Close, LookAtProc, AnotherProc}

-- ---- a run

-- so much is seen where a run has come to this, and this much is open beside
abbrev pub beside : ℕ → ℕ → ℕ → List ℕ → Run → Seen
beside b p o fds r = record {
  begun = b;
  pauses = p;
  others = o;
  held = given r.holds r.value ++ fds;
  owns = r.owns_proc;
  changed = r.changed;
  stepped = r.stepped;
  why = r.error;
  value = r.value;
  root = None;
}

abbrev left_open : Facts → Answer → List ℕ
left_open facts a = if is_left facts a then (a.made - 1) ∷ [] else []

-- a run that failed holds nothing
abbrev pub Bare : Run → Type 0
Bare r = r.error ≢ 0 → r.holds ≡ false

record Left (b p o : ℕ) (fds : List ℕ) (t : Seen) (r : Run) : Type 0 where
  at : t ≡ beside b p o fds r
  bare : Bare r

-- nothing has failed
abbrev fine : Bool → Bool → Bool → Bool → Run
fine st ch has owns = record {
  value = 0;
  error = 0;
  holds = false;
  stepped = st;
  changed = ch;
  has_proc = has;
  owns_proc = owns;
}

-- what the proved call's reply leaves, by what is asked of its number and of what was made
replied_so : (b p o fd error length count unopened : ℕ) (st ch has owns d g m u t c : Bool)
    → Left b p o (if not m && not (d && g) then fd ∷ [] else [])
    (record (beside b p o [] (fine st ch has owns)) {
      held = (if m then [] else fd ∷ []);
      why =
          (if d then (if not g then 0 else (if not m then 0 else (if u then EAGAIN else unopened)))
          else (if t || c then 0 else error));
      value = (if d then (if not g || m then 0 else fd) else (if t then length else (if c then count else 0)));
    })
    (if d
    then (if not g then fine st ch has owns
    else (if not m then record (fine st ch has owns) { value = fd; holds = true }
    else (if u then record (fine st ch has owns) { error = EAGAIN }
    else record (fine st ch has owns) { error = unopened })))
    else (if t then record (fine st ch has owns) { value = length }
    else (if c then record (fine st ch has owns) { value = count }
    else record (fine st ch has owns) { error = error })))
replied_so b p o fd error length count unopened st ch has owns true false true u t c =
    record { at = refl; bare = λ _. refl }
replied_so b p o fd error length count unopened st ch has owns true false false u t c =
    record { at = refl; bare = λ _. refl }
replied_so b p o fd error length count unopened st ch has owns true true false u t c =
    record { at = refl; bare = λ some. absurd (some refl) }
replied_so b p o fd error length count unopened st ch has owns true true true true t c =
    record { at = refl; bare = λ _. refl }
replied_so b p o fd error length count unopened st ch has owns true true true false t c =
    record { at = refl; bare = λ _. refl }
replied_so b p o fd error length count unopened st ch has owns false g true u true c =
    record { at = refl; bare = λ _. refl }
replied_so b p o fd error length count unopened st ch has owns false g false u true c =
    record { at = refl; bare = λ _. refl }
replied_so b p o fd error length count unopened st ch has owns false g true u false true =
    record { at = refl; bare = λ _. refl }
replied_so b p o fd error length count unopened st ch has owns false g false u false true =
    record { at = refl; bare = λ _. refl }
replied_so b p o fd error length count unopened st ch has owns false g true u false false =
    record { at = refl; bare = λ _. refl }
replied_so b p o fd error length count unopened st ch has owns false g false u false false =
    record { at = refl; bare = λ _. refl }

replies : (facts : Facts) (b p o : ℕ) (st ch has owns : Bool) (a : Answer) → (a.reply == OPENED) ≡ false
    → Left b p o (left_open facts a) (conversed_by facts (beside b p o [] (fine st ch has owns)) a)
    (replied facts (fine st ch has owns) a)
replies facts b p o st ch has owns a off =
    rw off
    (replied_so b p o (a.made - 1) (reply_error a) a.length a.value a.unopened st ch has owns (a.reply == DONE)
    facts.gives (a.made == 0) (a.unopened == 0) (a.reply == TEXT) (a.reply == COUNT))

took_so : (b p o fd v error : ℕ) (st ch has owns m well : Bool)
    → Left b p o (if not m && true then fd ∷ [] else [])
    (if well then record (beside b p o [] (fine st ch has owns)) { held = v ∷ (if m then [] else fd ∷ []); value = v }
    else record (beside b p o [] (fine st ch has owns)) { held = (if m then [] else fd ∷ []); why = error })
    (if well then record (fine st ch has owns) { value = v; holds = true }
    else record (fine st ch has owns) { error = error })
took_so b p o fd v error st ch has owns true true = record { at = refl; bare = λ some. absurd (some refl) }
took_so b p o fd v error st ch has owns false true = record { at = refl; bare = λ some. absurd (some refl) }
took_so b p o fd v error st ch has owns true false = record { at = refl; bare = λ _. refl }
took_so b p o fd v error st ch has owns false false = record { at = refl; bare = λ _. refl }

takes : (facts : Facts) (b p o : ℕ) (st ch has owns : Bool) (a c : Answer) → (a.reply == OPENED) ≡ true
    → Left b p o (left_open facts a)
    (taken_by (known facts (conversed_by facts (beside b p o [] (fine st ch has owns)) a) c) c)
    (took (noted facts (fine st ch has owns) c) c)
takes facts b p o st ch has owns a c is =
    subst (λ n. Left b p o (left_open facts (record a { reply = n }))
    (taken_by (known facts (conversed_by facts (beside b p o [] (fine st ch has owns)) (record a { reply = n })) c) c)
    (took (noted facts (fine st ch has owns) c) c))
    (sym (eqb-true a.reply OPENED is))
    (took_so b p o (a.made - 1) c.value c.error (st || c.stepped) (ch || (c.changed && not facts.finds_again))
    c.has_proc (owns || c.owns_proc) (a.made == 0) (c.error == 0))

-- ---- the proved call

yes_no : (b : Bool) → not b ≡ true → b ≡ false
yes_no true h = absurd cc
yes_no false h = refl

no_yes : (b : Bool) → not b ≡ false → b ≡ true
no_yes true h = refl
no_yes false h = absurd cc

zero_is : (n : ℕ) → not (n == 0) ≡ false → n ≡ 0
zero_is n h = grind (arith, h)

converses : (facts : Facts) (b p o : ℕ) (st ch has owns : Bool) (a : Answer) → facts.error ≡ 0
    → Goes (watch facts) 1 (conversed_by facts (beside b p o [] (fine st ch has owns)) a)
    (conversed facts (fine st ch has owns) a) (Left b p o (left_open facts a))
unfolding conversed
converses facts b p o st ch has owns a none =
    choose (not (a.reply == OPENED))
    (λ off. over (replies facts b p o st ch has owns a (yes_no (a.reply == OPENED) off)))
    (λ is. asks_then 0 Take none
    (λ c. over (takes facts b p o st ch has owns a c (no_yes (a.reply == OPENED) is))))

is_open : (h : Bool) (v fd : ℕ) → is_in fd (given h v ++ fd ∷ []) ≡ true
is_open true v fd = second_in fd v []
is_open false v fd = first_in fd []

is_closed : (h : Bool) (v fd : ℕ) → without fd (given h v ++ fd ∷ []) ≡ given h v ++ []
is_closed true v fd = without_second fd v []
is_closed false v fd = without_first fd []

lets_go : (facts : Facts) (b p o fd : ℕ) (r : Run) (is : Bool) → Bare r
    → Goes (watch facts) 1 (beside b p o (if is then fd ∷ [] else []) r)
    (if is then and_then (doing (Close fd)) (λ _. ends r) else ends r) (Left b p o [])
lets_go facts b p o fd r true bare =
    asks_then 0 (Close fd) (is_open r.holds r.value fd)
    (λ _. over (record {
      at = ap (λ xs. record (beside b p o [] r) { held = xs }) (is_closed r.holds r.value fd);
      bare = bare;
    }))
lets_go facts b p o fd r false bare = over (record { at = refl; bare = bare })

closes : (facts : Facts) (b p o : ℕ) (a : Answer) (t : Seen) (r : Run) → Left b p o (left_open facts a) t r
    → Goes (watch facts) 2 t (closed facts a r) (Left b p o [])
unfolding closed
closes facts b p o a t r h =
    subst (λ s. Goes (watch facts) 2 s (and_then (doing LetGo) (λ _. close_left facts a r)) (Left b p o [])) (sym h.at)
    (asks_then 1 LetGo tt (λ _. lets_go facts b p o (a.made - 1) r (is_left facts a) h.bare))

walks : (facts : Facts) (b p o : ℕ) (has owns : Bool) → facts.error ≡ 0
    → Goes (watch facts) 4 (beside b p o [] (fine false false has owns)) (walked facts (fine false false has owns))
    (Left b p o [])
unfolding walked
walks facts b p o has owns none =
    asks_then 3 Converse none
    (λ a. both 1 2
    (converses facts b p o a.stepped (a.changed && not facts.finds_again) a.has_proc (owns || a.owns_proc) a none)
    (λ t r h. closes facts b p o a t r h))

-- ---- a run

placed_so : (b p o length error : ℕ) (st ch has owns well : Bool)
    → Left b p o []
    (if well then record (beside b p o [] (fine st ch has owns)) { value = length }
    else record (beside b p o [] (fine st ch has owns)) { why = error })
    (if well then record (fine st ch has owns) { value = length } else record (fine st ch has owns) { error = error })
placed_so b p o length error st ch has owns true = record { at = refl; bare = λ _. refl }
placed_so b p o length error st ch has owns false = record { at = refl; bare = λ _. refl }

places : (facts : Facts) (b p o : ℕ) (has owns : Bool) (a : Answer)
    → Left b p o [] (seen_by facts (beside b p o [] (fine false false has owns)) Place a)
    (placed (noted facts (fine false false has owns) a) a)
places facts b p o has owns a =
    placed_so b p o a.length a.error a.stepped (a.changed && not facts.finds_again) a.has_proc (owns || a.owns_proc)
    (a.error == 0)

abbrev begun_by : Facts → ℕ → Bool → Bool → Run
begun_by facts error has owns = record (fine false false has owns) { error = error }

abbrev working : Facts → Run → Course Run
working facts r =
    if not facts.places then walked facts r else and_then (doing Place) (λ a. ends (placed (noted facts r a) a))

works : (facts : Facts) (b p o : ℕ) (has owns : Bool) → facts.error ≡ 0
    → Goes (watch facts) 4 (beside b p o [] (fine false false has owns)) (working facts (fine false false has owns))
    (Left b p o [])
works facts b p o has owns none =
    choose (not facts.places) (λ _. walks facts b p o has owns none)
    (λ _. asks_then 3 Place none (λ a. over (places facts b p o has owns a)))

-- what has failed before has failed by that, and goes by no /proc
record Came (facts : Facts) (b p o : ℕ) (t : Seen) (r : Run) : Type 0 where
  at : t ≡ beside b p o [] r
  bare : Bare r
  before : facts.error ≢ 0 → (r.error ≡ facts.error) × (r.has_proc ≡ false)

runs : (facts : Facts) (b p o : ℕ) (has owns : Bool) → (facts.error ≢ 0 → has ≡ false)
    → Goes (watch facts) 4 (beside b p o [] (new_run facts has owns)) (by_one facts has owns) (Came facts b p o)
unfolding by_one
runs facts b p o has owns h =
    choose (not (facts.error == 0))
    (λ _. asks_then 3 LetGo tt
    (λ _. over (record { at = refl; bare = λ _. refl; before = λ some. (refl, h some) })))
    (λ off. let none = zero_is facts.error off in
    weak 4 (omega arith)
    (subst (λ e. Goes (watch facts) 4 (beside b p o [] (begun_by facts e has owns))
    (working facts (begun_by facts e has owns)) (Left b p o []))
    (sym none) (works facts b p o has owns none))
    (λ t r l. record { at = l.at; bare = l.bare; before = λ some. absurd (some none) }))

-- ---- another /proc

pub record Made (facts : Facts) (b p : ℕ) (t : Seen) (r : Run) : Type 0 where
  pub others : ℕ
  pub at : t ≡ beside b p others [] r
  pub bare : Bare r
  pub before : facts.error ≢ 0 → r.error ≡ facts.error

-- a try that may go by another /proc
record Lost (r : Run) : Type 0 where
  error : r.error ≢ 0
  changed : r.changed ≡ false
  has : r.has_proc ≡ true
  owns : r.owns_proc ≡ false

lost_so : (error changed has owns : Bool) → (error && (not changed && (has && not owns))) ≡ true
    → (error ≡ true) × ((changed ≡ false) × ((has ≡ true) × (owns ≡ false)))
lost_so true false true false h = (refl, (refl, (refl, refl)))
lost_so true false true true h = absurd cc
lost_so true false false owns h = absurd cc
lost_so true true has owns h = absurd cc
lost_so false changed has owns h = absurd cc

is_lost : (r : Run) → may_go_by_another r ≡ true → Lost r
is_lost r h =
    let so = lost_so ((r.error == ENOSYS) || (r.error == ENOTDIR)) r.changed r.has_proc r.owns_proc h in
    record {
      error = λ none. false≢true (subst (λ n. ((n == ENOSYS) || (n == ENOTDIR)) ≡ true) none so.0);
      changed = so.1.0;
      has = so.1.1.0;
      owns = so.1.1.1;
    }

-- where nothing is open, and nothing was changed
abbrev pub anew : Facts → ℕ → ℕ → ℕ → List ℕ → Bool → Bool → Seen
anew facts b p o held owns changed = record {
  begun = b;
  pauses = p;
  others = o;
  held = held;
  owns = owns;
  changed = changed;
  stepped = false;
  why = facts.error;
  value = 0;
  root = None;
}

pub is_anew : (facts : Facts) (b p o : ℕ) (has owns own changed : Bool) (held : List ℕ) → held ≡ [] → own ≡ owns
    → changed ≡ false → anew facts b p o held own changed ≡ beside b p o [] (new_run facts has owns)
is_anew facts b p o has owns own changed held h1 h2 h3 =
    ap (λ xs. anew facts b p o xs own changed) h1 ∙ ap (λ x. anew facts b p o [] x changed) h2
    ∙ ap (λ x. anew facts b p o [] owns x) h3

pub held_none : (r : Run) → r.holds ≡ false → given r.holds r.value ++ [] ≡ []
held_none r h = ap (λ b. given b r.value ++ []) h

other_goes : (facts : Facts) (b p : ℕ) (r : Run) (c : Answer) (well : Bool) → facts.error ≡ 0 → Bare r → Lost r
    → Goes (watch facts) 4
    (if well then anew facts b p 1 (given r.holds r.value ++ []) (r.owns_proc || c.owns_proc) r.changed
    else beside b p 1 [] (record r { error = c.error }))
    (if not well then ends (record r { error = c.error }) else by_one facts true c.owns_proc) (Made facts b p)
other_goes facts b p r c true none bare lost =
    subst (λ s. Goes (watch facts) 4 s (by_one facts true c.owns_proc) (Made facts b p))
    (sym (is_anew facts b p 1 true c.owns_proc (r.owns_proc || c.owns_proc) r.changed (given r.holds r.value ++ [])
    (held_none r (bare lost.error)) (ap (λ x. x || c.owns_proc) lost.owns) lost.changed))
    (weak 4 (omega arith) (runs facts b p 1 true c.owns_proc (λ some. absurd (some none)))
    (λ t e h. record { others = 1; at = h.at; bare = h.bare; before = λ some. absurd (some none) }))
other_goes facts b p r c false none bare lost =
    over (record { others = 1; at = refl; bare = λ _. bare lost.error; before = λ some. absurd (some none) })

no_error : (facts : Facts) (r : Run) → (facts.error ≢ 0 → (r.error ≡ facts.error) × (r.has_proc ≡ false)) → Lost r
    → facts.error ≡ 0
no_error facts r before lost = by_case (not (facts.error == 0)) refl
  where
    by_case : (b : Bool) → not (facts.error == 0) ≡ b → facts.error ≡ 0
    by_case true is = absurd (false≢true (sym (before (λ zero. absurd (grind (arith, is, zero)))).1 ∙ lost.has))
    by_case false is = zero_is facts.error is

others_go : (facts : Facts) (b p : ℕ) (r : Run) → facts.error ≡ 0 → Bare r → Lost r
    → Goes (watch facts) 6 (beside b p 0 [] r) (by_another facts r) (Made facts b p)
unfolding by_another
others_go facts b p r none bare lost =
    asks_then 5 LookAtProc tt
    (λ a. choose (a.error == 0)
    (λ _. over (record { others = 0; at = refl; bare = bare; before = λ some. absurd (some none) }))
    (λ _. asks_then 4 AnotherProc (refl, lost.changed)
    (λ c. other_goes facts b p r c (c.error == 0) none bare lost)))

pub makes : (facts : Facts) (b p : ℕ) → Goes (watch facts) 10 (beside b p 0 [] (new_run facts false false)) (made facts)
    (Made facts b p)
unfolding made
makes facts b p =
    both 4 6 (runs facts b p 0 false false (λ _. refl))
    (λ t r h. subst (λ s. Goes (watch facts) 6 s (once_more facts r) (Made facts b p)) (sym h.at)
    (choose (may_go_by_another r)
    (λ is. let lost = is_lost r is in others_go facts b p r (no_error facts r h.before lost) h.bare lost)
    (λ _. over (record { others = 0; at = refl; bare = h.bare; before = λ some. (h.before some).0 }))))
