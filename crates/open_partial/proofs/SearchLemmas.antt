-- What the tries of a path come to.
use Rattle.std.proofs.Common.{◌≡◌, ◌≢◌, ◌<◌, ◌≤◌, ◌+◌, ◌-◌, ◌*◌, ℕ, zero, suc, List, [], ◌∷◌, length, Bool, true, false, not, ◌&&◌, if◌then◌else◌, ◌⊎◌, inl, inr, refl, ap, sym, subst, ◌∙◌, arith}
use Rattle.std.specs.Prelude.{◌==◌, nat_lt, Option, Some, None}
use Rattle.std.proofs.lemmas.Bool.{cases_lt, eqb-true, eqb-false, le-ltb, lt-ltb, ltb-false, ltb-true}
use Rattle.system_calls.specs.Held.{without}
use Rattle.dialogue.specs.Dialogue.{and_then, asking, ends}
use Rattle.dialogue.proofs.HeldLemmas.{out_by, without_second}
use Rattle.dialogue.proofs.HoldLemmas.{Goes, asks_then, both, over, weak}
use Rattle.open_partial.specs.Promises.{Ends, IsFound, IsWhy, TriesHold}
use Rattle.open_partial.specs.Search.{a_try, begun, closed, found, go_on, is_missing, middle, pieces_of, searches, seen, tried_so}
use Rattle.open_partial.specs.Seen.{May, Opened, Seen, after, at_first, opened_by, opening, watch}
use Rattle.open_partial.specs.declared.asking.Outcome.{Outcome}
use Rattle.open_partial.specs.declared.asking.Question.TheVariants.{Try, Close}
use Rattle.open_partial.specs.declared.search.Came.{Came}
use Rattle.open_partial.specs.declared.search.Came.TheVariants.{Found, Failed, Again}
use Rattle.open_partial.specs.declared.search.Search.{Search}
use Rattle.open_partial.proofs.FewLemmas.{Room, first_few, first_room, halved, next_few}

-- ---- what is known between two tries

abbrev listed : Option ℕ → List ℕ
listed (Some fd) = fd ∷ []
listed None = []

-- what is open is what so many pieces mean
abbrev IsOpen : Option Opened → ℕ → Option ℕ → Type 0
IsOpen opened there (Some fd) = opened ≡ Some (opening there fd)
IsOpen opened there None = there ≡ 0

record Sound (n : ℕ) (s : Search) (t : Seen) : Type 0 where
  same : s.pieces ≡ n
  held : t.held ≡ listed s.held
  opened : IsOpen t.opened s.there s.held
  order : s.there < s.missing
  missed : (s.missing ≡ suc n) ⊎ (t.missed ≡ Some s.missing)
  closes : t.closes + length (listed s.held) ≤ t.tries

-- less lies between than before
record IsLeft (n most tries there missing : ℕ) : Type 0 where
  room : Room n tries (missing - there)
  fits : missing ≤ n
  less : missing - there < most

-- another try follows
record Next (n : ℕ) (s : Search) (t : Seen) : Type 0 where
  sound : Sound n s t
  room : Room n t.tries (s.missing - s.there)
  fits : s.missing ≤ n
  begun : 0 < t.tries
  goes : (s.held ≡ None) ⊎ (suc s.there < s.missing)

abbrev Comes : ℕ → ℕ → Seen → Came → Type 0
Comes n most t (Again s) = Next n s t × (s.missing - s.there < most)
Comes n most t (Found there fd) = IsFound n t there fd
Comes n most t (Failed error) = IsWhy t error

seen_comes : (n most : ℕ) (s : Search) (t : Seen) → Sound n s t → 0 < t.tries
    → (suc s.there < s.missing → IsLeft n most t.tries s.there s.missing)
    → (s.held ≡ None → IsLeft n most t.tries s.there s.missing) → Comes n most t (seen s)
seen_comes n most s t sound begun on back = by_case (nat_lt (suc s.there) s.missing) s.held refl refl
  where
    next : IsLeft n most t.tries s.there s.missing → (s.held ≡ None) ⊎ (suc s.there < s.missing)
        → Comes n most t (Again s)
    next left goes = (
      record { sound = sound; room = left.room; fits = left.fits; begun = begun; goes = goes },
      left.less,
    )

    no_more : s.missing ≡ suc s.there → (s.missing ≡ suc n) ⊎ (t.missed ≡ Some s.missing)
        → (s.there ≡ n) ⊎ (t.missed ≡ Some (suc s.there))
    no_more is (inl all) = inl (omega (arith, is, all))
    no_more is (inr some) = inr (some ∙ ap (λ m. Some m) is)

    by_case : (more : Bool) (h : Option ℕ) → nat_lt (suc s.there) s.missing ≡ more → s.held ≡ h
        → Comes n most t (if more then Again s else found s h)
    by_case true h is held = let more = ltb-true (suc s.there) s.missing is in next (on more) (inr more)
    by_case false None is held = next (back held) (inl held)
    by_case false (Some fd) is held =
        let order = sound.order in
        let few = ltb-false (suc s.there) s.missing is in
        record {
          held = sound.held ∙ ap listed held;
          opened = subst (IsOpen t.opened s.there) held sound.opened;
          no_more = no_more (omega (arith, order, few)) sound.missed;
        }

-- ---- a try of so many pieces

record Mid (n most : ℕ) (s : Search) (t : Seen) (k : ℕ) : Type 0 where
  below : k < s.missing
  above : k ≢ 0 → s.there < k
  on : suc k < s.missing → IsLeft n most (suc t.tries) k s.missing
  off : k ≢ 0 → IsLeft n most (suc t.tries) s.there k

-- it opened something
finds_goes : (n most k fd : ℕ) (s : Search) (t : Seen) → Sound n s t → Mid n most s t k
    → Goes (watch n) 1 (opened_by t k fd) (closed s.held (seen (record s { there = k; held = Some fd })))
    (Comes n most)
unfolding closed
finds_goes n most k fd s t sound mid = by_case s.held sound.held sound.closes
  where
    now : Search
    now = record s { there = k; held = Some fd }

    comes : (u : Seen) → u.tries ≡ suc t.tries → u.held ≡ fd ∷ [] → u.opened ≡ Some (opening k fd)
        → u.missed ≡ t.missed → u.closes + 1 ≤ u.tries → Comes n most u (seen now)
    comes u tries held opened missed closes =
        seen_comes n most now u (record {
          same = sound.same;
          held = held;
          opened = opened;
          order = mid.below;
          missed = subst (λ m. (s.missing ≡ suc n) ⊎ (m ≡ Some s.missing)) (sym missed) sound.missed;
          closes = closes;
        }) (omega (arith, tries))
        (λ more. subst (λ c. IsLeft n most c k s.missing) (sym tries) (mid.on more)) (λ none. absurd cc)

    by_case : (h : Option ℕ) → t.held ≡ listed h → t.closes + length (listed h) ≤ t.tries
        → Goes (watch n) 1 (opened_by t k fd) (closed h (seen now)) (Comes n most)
    by_case None held few =
        over (comes (opened_by t k fd) refl (ap (λ xs. fd ∷ xs) held) refl refl (omega (arith, few)))
    by_case (Some old) held few =
        asks_then 0 (Close old)
        (record { rest = fd ∷ []; last = ap (λ xs. fd ∷ xs) held; few = omega (arith, few) })
        (λ b. over (comes (after (opened_by t k fd) (Close old) b) refl
        (ap (λ xs. without old (fd ∷ xs)) held ∙ without_second old fd []) refl refl (omega (arith, few))))

-- it ends by an error
fails_goes : (n most : ℕ) (h : Option ℕ) (t : Seen) (error : ℕ) → t.held ≡ listed h
    → t.closes + length (listed h) ≤ t.tries → error ≢ 0 → t.error ≡ error
    → (is_missing error ≡ false) ⊎ (t.tried ≡ 0)
    → Goes (watch n) 1 t (closed h (Failed error)) (Comes n most)
unfolding closed
fails_goes n most None t error held few some gave why =
    over (record { held = held; some = some; gave = gave; why = why })
fails_goes n most (Some fd) t error held few some gave why =
    asks_then 0 (Close fd) (record { rest = []; last = held; few = omega (arith, few) })
    (λ b. over (record { held = out_by fd t.held [] held; some = some; gave = gave; why = why }))

abbrev failed : Seen → ℕ → ℕ → Bool → Seen
failed t k error missing =
    record t { tries = suc t.tries; missed = if missing then Some k else t.missed; tried = k; error = error }

misses_goes : (n most k error : ℕ) (s : Search) (t : Seen) → Sound n s t → Mid n most s t k → error ≢ 0
    → Goes (watch n) 1 (failed t k error (is_missing error))
    (if is_missing error && not (k == 0) then ends (seen (record s { missing = k }))
    else closed s.held (Failed error)) (Comes n most)
misses_goes n most k error s t sound mid some = by_case (is_missing error) (k == 0) refl refl
  where
    few : t.closes + length (listed s.held) ≤ suc t.tries
    few = let closes = sound.closes in omega (arith, closes)

    by_case : (missing none : Bool) → is_missing error ≡ missing → (k == 0) ≡ none
        → Goes (watch n) 1 (failed t k error missing)
        (if missing && not none then ends (seen (record s { missing = k })) else closed s.held (Failed error))
        (Comes n most)
    by_case true false is at =
        let most_of = mid.off (eqb-false k 0 at) in
        over (seen_comes n most (record s { missing = k }) (failed t k error true) (record {
          same = sound.same;
          held = sound.held;
          opened = sound.opened;
          order = mid.above (eqb-false k 0 at);
          missed = inr refl;
          closes = few;
        }) (omega arith) (λ _. most_of) (λ _. most_of))
    by_case true true is at =
        fails_goes n most s.held (failed t k error true) error sound.held few some refl (inr (eqb-true k 0 at))
    by_case false none is at =
        fails_goes n most s.held (failed t k error false) error sound.held few some refl (inl is)

tried_goes : (n most k : ℕ) (s : Search) (t : Seen) (whole : Bool) → Sound n s t → Mid n most s t k
    → May n t (Try k whole)
    → Goes (watch n) 2 t (and_then (asking pieces_of (Try k whole)) (tried_so k s)) (Comes n most)
unfolding tried_so
tried_goes n most k s t whole sound mid may =
    asks_then 1 (Try k whole) may (λ a. by_case a (a.error == 0) refl)
  where
    by_case : (a : Outcome) (good : Bool) → (a.error == 0) ≡ good
        → Goes (watch n) 1 (if good then opened_by t k a.descriptor else failed t k a.error (is_missing a.error))
        (if good then closed s.held (seen (record s { there = k; held = Some a.descriptor }))
        else (if is_missing a.error && not (k == 0) then ends (seen (record s { missing = k }))
        else closed s.held (Failed a.error))) (Comes n most)
    by_case a true is = finds_goes n most k a.descriptor s t sound mid
    by_case a false is = misses_goes n most k a.error s t sound mid (eqb-false a.error 0 is)

-- ---- the first try, and those behind it

abbrev gap : Search → ℕ
gap s = s.missing - s.there

whole_or_less : (n most : ℕ) (s : Search) (t : Seen) (whole : Bool) → nat_lt s.pieces s.missing ≡ whole
    → Goes (watch n) 2 t (and_then (asking pieces_of (Try (if whole then s.pieces else middle s) whole))
    (tried_so (if whole then s.pieces else middle s) s)) (Comes n most)
    → Goes (watch n) 2 t (a_try s) (Comes n most)
unfolding a_try
whole_or_less n most s t whole is goes =
    subst (λ b. Goes (watch n) 2 t (and_then (asking pieces_of (Try (if b then s.pieces else middle s) b))
    (tried_so (if b then s.pieces else middle s) s)) (Comes n most)) (sym is) goes

some_more : (n : ℕ) → n ≢ 0 → 0 < n
some_more zero some = absurd (some refl)
some_more (suc n) some = omega arith

first_goes : (n : ℕ) → Goes (watch n) 2 at_first (a_try (begun n)) (Comes n (suc n))
first_goes n =
    whole_or_less n (suc n) (begun n) at_first true (lt-ltb n (suc n) (omega arith))
    (tried_goes n (suc n) n (begun n) at_first true (record {
      same = refl;
      held = refl;
      opened = refl;
      order = omega arith;
      missed = inl refl;
      closes = omega arith;
    }) (record {
      below = omega arith;
      above = some_more n;
      on = λ more. absurd (omega (arith, more));
      off = λ _. record { room = first_room n (n - 0) (omega arith); fits = omega arith; less = omega arith };
    }) (inl (record { is = refl; all = refl; first = refl }), first_few n))

halves_mid : (n : ℕ) (s : Search) (t : Seen) → Next n s t → suc s.there < s.missing
    → Mid n (gap s) s t (middle s)
halves_mid n s t next more =
    let fits = next.fits in
    record {
      below = omega (arith, more);
      above = λ _. omega (arith, more);
      on = λ _. record {
        room = halved n t.tries (gap s) (s.missing - middle s) next.room
            (omega (arith, more, fits)) (omega (arith, more))
            (omega (arith, more));
        fits = fits;
        less = omega (arith, more);
      };
      off = λ _. record {
        room = halved n t.tries (gap s) (middle s - s.there) next.room (omega (arith, more, fits)) (omega (arith, more))
            (omega (arith, more));
        fits = omega (arith, more, fits);
        less = omega (arith, more);
      };
    }

last_mid : (n : ℕ) (s : Search) (t : Seen) → Next n s t → s.missing ≤ suc s.there → Mid n (gap s) s t (middle s)
last_mid n s t next done =
    record {
      below = omega (arith, one, none);
      above = λ some. absurd (some (omega (arith, one, none)));
      on = λ more. absurd (omega (arith, one, more));
      off = λ some. absurd (some (omega (arith, one, none)));
    }
  where
    free : (s.held ≡ None) ⊎ (suc s.there < s.missing) → s.held ≡ None
    free (inl is) = is
    free (inr more) = absurd (omega (arith, more, done))

    none : s.there ≡ 0
    none = subst (IsOpen t.opened s.there) (free next.goes) next.sound.opened

    one : s.missing ≡ 1
    one = let order = next.sound.order in omega (arith, order, done, none)

next_goes : (n : ℕ) (s : Search) (t : Seen) → Next n s t → Goes (watch n) 2 t (a_try s) (Comes n (gap s))
next_goes n s t next =
    whole_or_less n (gap s) s t false (le-ltb s.pieces s.missing (omega (arith, same, fits)))
    (tried_goes n (gap s) (middle s) s t false next.sound mid (
      inr (record {
        is = refl;
        less = omega (arith, below, fits);
        later = next.begun;
      }),
      next_few n t.tries (gap s) next.room,
    ))
  where
    same : s.pieces ≡ n
    same = next.sound.same

    fits : s.missing ≤ n
    fits = next.fits

    by_case : (suc s.there < s.missing) ⊎ (s.missing ≤ suc s.there) → Mid n (gap s) s t (middle s)
    by_case (inl more) = halves_mid n s t next more
    by_case (inr done) = last_mid n s t next done

    mid : Mid n (gap s) s t (middle s)
    mid = by_case (cases_lt (suc s.there) s.missing)

    below : middle s < s.missing
    below = mid.below

-- ---- a whole search

abbrev HoldsFrom : ℕ → ℕ → Type 0
HoldsFrom n more =
    (s : Search) (t : Seen) → Next n s t → gap s ≤ more → Goes (watch n) (2 * more) t (searches more s) (Ends n)

-- behind a try
behind : (n more most : ℕ) → HoldsFrom n more → most ≤ suc more → (t : Seen) (c : Came) → Comes n most t c
    → Goes (watch n) (2 * more) t (go_on (searches more) c) (Ends n)
behind n more most rest room t (Again s) is = let less = is.1 in rest s t is.0 (omega (arith, less, room))
behind n more most rest room t (Found there fd) is = over is
behind n more most rest room t (Failed error) is = over is

one_more : (n more : ℕ) → HoldsFrom n more → HoldsFrom n (suc more)
one_more n more rest s t next room =
    weak (2 + 2 * more) (omega arith)
    (both 2 (2 * more) (next_goes n s t next) (behind n more (gap s) rest room)) (λ t c done. done)

none_left : (n : ℕ) → HoldsFrom n zero
none_left n s t next room = let order = next.sound.order in absurd (omega (arith, order, room))

holds_from : (n more : ℕ) → HoldsFrom n more
holds_from n zero = none_left n
holds_from n (suc more) = one_more n more (holds_from n more)

pub tries-hold : TriesHold
tries-hold n =
    (weak (2 + 2 * n) (omega arith)
    (both 2 (2 * n) (first_goes n) (behind n n (suc n) (holds_from n n) (omega arith))) (λ t c done. done)).each
