-- A removal, one call after another: what is known between two calls, and behind each.
use Rattle.std.proofs.Common.{◌≡◌, ◌≢◌, ◌<◌, ◌≤◌, ◌+◌, ◌-◌, ◌*◌, ◌%◌, ◌^◌, ℕ, zero, suc, [], ◌∷◌, Bool, true, false, ◌&&◌, if◌then◌else◌, ◌⊎◌, inl, inr, min, nat_lt, refl, ap, sym, subst, ◌∙◌, arith}
use Rattle.std.specs.Prelude.{◌==◌}
use Rattle.std.proofs.lemmas.Bool.{and_parts, eq-eqb, eqb-false, eqb-true, lt-ltb, ltb-false, ltb-true}
use Rattle.system_calls.specs.Errors.{EAGAIN}
use Rattle.system_calls.specs.Held.{without}
use Rattle.system_calls.specs.Tries.{is_due, next_try, pause_after}
use Rattle.system_calls.specs.declared.tries.NextTry.{NextTry}
use Rattle.dialogue.specs.Dialogue.{and_then, asking}
use Rattle.dialogue.specs.Holds.{is_in}
use Rattle.dialogue.proofs.HeldLemmas.{in_by, out_by}
use Rattle.dialogue.proofs.HoldLemmas.{Goes, asks_then, both, choose, over, weak}
use Rattle.remove_by_calls.specs.Answers.{met_of}
use Rattle.remove_by_calls.specs.Promises.{Ends, RemovalsHold, ring}
use Rattle.remove_by_calls.specs.Removal.{a_call, again, all_closed, at_root, begun, call_at_root, call_in_place, called, calls, crowded, go_on, in_place, inner, inner_closed, done, kept_one, outer_closed, pause_before, place_at, steps, tried, COUNT_MAX}
use Rattle.remove_by_calls.specs.Seen.{Seen, at_first, called_by, goes_on, is_deeper, watch}
use Rattle.remove_by_calls.specs.declared.answers.Met.{Met}
use Rattle.remove_by_calls.specs.declared.answers.Met.TheVariants.{Gone, Deeper, Bound, Crowded, Failed}
use Rattle.remove_by_calls.specs.declared.asking.Question.TheVariants.{AtRoot, InPlace, Keep, Close}
use Rattle.remove_by_calls.specs.declared.removal.Came.{Came}
use Rattle.remove_by_calls.specs.declared.removal.Came.TheVariants.{Removed, Fails, Again}
use Rattle.remove_by_calls.specs.declared.removal.Removal.{Removal}
use Rattle.remove_by_calls.proofs.AnswerLemmas.{met_bound}
use Rattle.remove_by_calls.proofs.RingLemmas.{free_ring, outer_in, without_outer}

-- ---- what is known

record Keeps (r : Removal) (s : Seen) : Type 0 where
  outermost : r.outermost < 16
  fits : r.kept ≤ 16
  kept : s.kept ≡ ring r.outermost r.kept
  removed : r.removed ≡ min s.removed COUNT_MAX
  idle : r.idle ≡ s.idle
  tries : s.idle ≤ 32

-- Each place that is kept has two questions to come, and each try that is left has one. So many others are to spare; or
-- so many are owed.
abbrev Room : Removal → Seen → ℕ → ℕ → Type 0
Room r s spare owed =
    s.asked + 2 * r.kept + (32 - s.idle) + spare ≤ 4 * s.deeper + 34 * s.removed + 32 + owed

-- another call follows
record Next (may_retry : Bool) (r : Removal) (s : Seen) : Type 0 where
  keeps : Keeps r s
  room : Room r s 0 0
  waits : s.waits ≡ false
  goes : goes_on may_retry s.met ≡ true
  begins : r.kept ≡ 0 → (s.idle < 32) × (s.idle ≢ 0 → may_retry ≡ true)

abbrev Comes : Bool → Seen → Came → Type 0
Comes may_retry s (Again r) = Next may_retry r s
Comes may_retry s (Removed count) = Ends may_retry s (Removed count)
Comes may_retry s (Fails error) = Ends may_retry s (Fails error)

-- ---- a place is kept

keep_goes : (may_retry : Bool) (r : Removal) (s : Seen) → Keeps r s → Room r s 3 0 → r.kept < 16 → s.waits ≡ true
    → goes_on may_retry s.met ≡ true → Goes (watch may_retry) 1 s (kept_one r) (Comes may_retry)
unfolding kept_one
keep_goes may_retry r s k room less waits goes =
    asks_then 0 (Keep (place_at r r.kept)) (
      omega (arith, room),
      record {
        waits = waits;
        fits = omega arith;
        free = subst (λ l. is_in (place_at r r.kept) l ≡ false) (sym k.kept) (free_ring r.outermost r.kept less);
      },
    )
    (λ a. over (record {
      keeps = record {
        outermost = k.outermost;
        fits = omega (arith, less);
        kept = ap (λ l. place_at r r.kept ∷ l) k.kept ∙ ap (ring r.outermost) (sym more);
        removed = k.removed;
        idle = k.idle;
        tries = k.tries;
      };
      room = omega (arith, room, more);
      waits = refl;
      goes = goes;
      begins = λ none. absurd (omega (arith, none, more));
    }))
  where
    more : min (r.kept + 1) 255 ≡ suc r.kept
    more = omega (arith, less)

-- ---- places are closed

-- so many are left, and a question more is to spare for each that was closed
record Left (kept spare owed : ℕ) (s t : Seen) (left : Removal) : Type 0 where
  keeps : Keeps left t
  room : Room left t spare owed
  fewer : left.kept ≡ kept
  waits : t.waits ≡ s.waits
  met : t.met ≡ s.met

some_kept : (r : Removal) → 0 < r.kept → r.kept ≡ suc (r.kept - 1)
some_kept r some = omega (arith, some)

inner_first : (r : Removal) (s : Seen) → Keeps r s → 0 < r.kept → s.kept ≡ inner r ∷ ring r.outermost (r.kept - 1)
inner_first r s k some = k.kept ∙ ap (ring r.outermost) (some_kept r some)

inner_goes : (may_retry : Bool) (r : Removal) (s : Seen) (spare : ℕ) → Keeps r s → Room r s spare 1 → 0 < r.kept
    → Goes (watch may_retry) 1 s (inner_closed r) (Left (r.kept - 1) (suc spare) 1 s)
unfolding inner_closed
inner_goes may_retry r s spare k room some =
    let is = inner_first r s k some in
    asks_then 0 (Close (inner r))
    (omega (arith, room, some), in_by (inner r) s.kept (ring r.outermost (r.kept - 1)) is)
    (λ a. over (record {
      keeps = record {
        outermost = k.outermost;
        fits = let fits = k.fits in omega (arith, fits);
        kept = out_by (inner r) s.kept (ring r.outermost (r.kept - 1)) is;
        removed = k.removed;
        idle = k.idle;
        tries = k.tries;
      };
      room = omega (arith, room, some);
      fewer = refl;
      waits = refl;
      met = refl;
    }))

least : (n : ℕ) → n < 16 → n % 16 ≡ n
least n fits = omega (arith, fits)

outer_goes : (may_retry : Bool) (r : Removal) (s : Seen) (spare : ℕ) → Keeps r s → Room r s spare 1 → 0 < r.kept
    → Goes (watch may_retry) 1 s (outer_closed r) (Left (r.kept - 1) (suc spare) 1 s)
unfolding outer_closed
outer_goes may_retry r s spare k room some =
    asks_then 0 (Close r.outermost) (omega (arith, room, some), here)
    (λ a. over (record {
      keeps = record {
        outermost = omega arith;
        fits = omega (arith, fits);
        kept = gone;
        removed = k.removed;
        idle = k.idle;
        tries = k.tries;
      };
      room = omega (arith, room, some);
      fewer = refl;
      waits = refl;
      met = refl;
    }))
  where
    fits : r.kept ≤ 16
    fits = k.fits

    all : s.kept ≡ ring r.outermost (suc (r.kept - 1))
    all = inner_first r s k some

    is : r.outermost % 16 ≡ r.outermost
    is = least r.outermost k.outermost

    here : is_in r.outermost s.kept ≡ true
    here =
        subst (λ l. is_in r.outermost l ≡ true) (sym all)
        (subst (λ n. is_in n (ring r.outermost (suc (r.kept - 1))) ≡ true) is (outer_in r.outermost (r.kept - 1)))

    gone : without r.outermost s.kept ≡ ring ((r.outermost + 1) % 16) (r.kept - 1)
    gone =
        ap (without r.outermost) all ∙ (ap (λ n. without n (ring r.outermost (suc (r.kept - 1)))) (sym is)
        ∙ without_outer r.outermost (r.kept - 1) (omega (arith, fits, some)))

abbrev closed_by : Seen → ℕ → Seen
closed_by s place = record s { asked = suc s.asked; kept = without place s.kept }

all_go : (may_retry : Bool) (r : Removal) (n spare : ℕ) (s : Seen) → Keeps (record r { kept = n }) s
    → Room (record r { kept = n }) s spare 1
    → Goes (watch may_retry) n s (all_closed r n) (Left 0 (n + spare) 1 s)
unfolding all_closed
all_go may_retry r zero spare s k room =
    over (record { keeps = k; room = omega (arith, room); fewer = refl; waits = refl; met = refl })
all_go may_retry r (suc n) spare s k room =
    weak (1 + n) (omega arith) (asks_then n (Close (place_at r n))
    (omega (arith, room), in_by (place_at r n) s.kept (ring r.outermost n) k.kept)
    (λ a. all_go may_retry r n (suc spare) (closed_by s (place_at r n)) (record {
      outermost = k.outermost;
      fits = let fits = k.fits in omega (arith, fits);
      kept = out_by (place_at r n) s.kept (ring r.outermost n) k.kept;
      removed = k.removed;
      idle = k.idle;
      tries = k.tries;
    }) (omega (arith, room))))
    (λ t left h. let more = h.room in record {
      keeps = h.keeps;
      room = omega (arith, more);
      fewer = h.fewer;
      waits = h.waits;
      met = h.met;
    })

-- ---- whether another try follows

abbrev trying : ℕ → Bool → NextTry
trying idle due = if due then (record { due = true; pause = pause_after idle }) else (record { due = false; pause = 0 })

yes_both : (a b : Bool) → a ≡ true → b ≡ true → (a && b) ≡ true
yes_both true b h g = g
yes_both false b h g = h

second_no : (a b : Bool) → a ≡ true → (a && b) ≡ false → b ≡ false
second_no true b h g = g
second_no false b h g = absurd cc

record Due (may_retry : Bool) (idle error : ℕ) : Type 0 where
  lets : may_retry ≡ true
  is : (error == EAGAIN) ≡ true
  tries : idle < 32

due_so : (may_retry : Bool) (idle error : ℕ) → is_due idle may_retry error false ≡ true → Due may_retry idle error
due_so may_retry idle error h =
    let first = and_parts may_retry ((error == EAGAIN) && nat_lt idle 32) h in
    let second = and_parts (error == EAGAIN) (nat_lt idle 32) first.1 in
    record { lets = first.0; is = second.0; tries = ltb-true idle 32 second.1 }

no_more : (may_retry : Bool) (idle error : ℕ) → is_due idle may_retry error false ≡ false → error ≡ EAGAIN
    → (may_retry ≡ false) ⊎ (32 ≤ idle)
no_more false idle error h is = inl refl
no_more true idle error h is =
    inr (ltb-false idle 32 (second_no (error == EAGAIN) (nat_lt idle 32) (eq-eqb error EAGAIN is) h))

abbrev Reason : Seen → ℕ → Type 0
Reason s error =
    ((s.met ≡ Crowded error) ⊎ (s.met ≡ Failed error)) ⊎ ((error ≡ EAGAIN) × ((s.met ≡ Gone) × (0 < s.idle)))

goes_by : (may_retry : Bool) (s : Seen) (error idle : ℕ) → Reason s error → Due may_retry idle error
    → goes_on may_retry s.met ≡ true
goes_by may_retry s error idle (inl (inl met)) due = ap (goes_on may_retry) met
goes_by may_retry s error idle (inl (inr met)) due =
    ap (goes_on may_retry) met ∙ yes_both may_retry (error == EAGAIN) due.lets due.is
goes_by may_retry s error idle (inr gone) due = ap (goes_on may_retry) gone.1.0

again_comes : (may_retry : Bool) (r : Removal) (s : Seen) (error : ℕ) → Keeps r s → Room r s 0 0 → r.kept ≡ 0
    → s.waits ≡ false → Reason s error → Comes may_retry s (again may_retry r error)
again_comes may_retry r s error k room none waits reason =
    by_case (is_due r.idle may_retry error false) refl
  where
    same : r.idle ≡ s.idle
    same = k.idle

    by_case : (b : Bool) → is_due r.idle may_retry error false ≡ b
        → Comes may_retry s (if (trying r.idle b).due then Again r else Fails error)
    by_case true is =
        let due = due_so may_retry r.idle error is in
        let tries = due.tries in
        record {
          keeps = k;
          room = room;
          waits = waits;
          goes = goes_by may_retry s error r.idle reason due;
          begins = λ _. (omega (arith, tries, same), λ _. due.lets);
        }
    by_case false is = record {
      waits = waits;
      few = omega (arith, room);
      by = (
        k.kept ∙ ap (ring r.outermost) none,
        record {
          reason = reason;
          no_more = λ again. subst (λ n. (may_retry ≡ false) ⊎ (32 ≤ n)) same (no_more may_retry r.idle error is again);
        },
      );
    }

goes_next : (may_retry : Bool) (r : Removal) (s : Seen) (met : Met) → Keeps r s → Room r s 0 0 → s.waits ≡ false
    → s.met ≡ met → goes_on may_retry met ≡ true
    → (r.kept ≡ 0 → (s.idle < 32) × (s.idle ≢ 0 → may_retry ≡ true)) → Next may_retry r s
goes_next may_retry r s met k room waits is goes begins =
    record { keeps = k; room = room; waits = waits; goes = ap (goes_on may_retry) is ∙ goes; begins = begins }

above : (n : ℕ) → n ≢ 0 → 0 < n
above zero some = absurd (some refl)
above (suc n) some = omega arith

over_comes : (may_retry : Bool) (r : Removal) (s : Seen) → Keeps r s → Room r s 0 0 → s.waits ≡ false → s.met ≡ Gone
    → Comes may_retry s (done may_retry r)
over_comes may_retry r s k room waits met = by_case (r.kept == 0) (r.idle == 0) refl refl
  where
    same : r.idle ≡ s.idle
    same = k.idle

    by_case : (none first : Bool) → (r.kept == 0) ≡ none → (r.idle == 0) ≡ first
        → Comes may_retry s (if none then (if first then Again r else again may_retry r EAGAIN) else Again r)
    by_case true true is at =
        let zero_idle = eqb-true r.idle 0 at in
        goes_next may_retry r s Gone k room waits met refl
        (λ _. (omega (arith, zero_idle, same), λ some. absurd (some (sym same ∙ zero_idle))))
    by_case true false is at =
        let some = eqb-false r.idle 0 at in
        again_comes may_retry r s EAGAIN k room (eqb-true r.kept 0 is) waits
        (inr (refl, (met, subst (λ n. 0 < n) same (above r.idle some))))
    by_case false first is at =
        goes_next may_retry r s Gone k room waits met refl (λ none. absurd (eqb-false r.kept 0 is none))

crowded_comes : (may_retry : Bool) (r : Removal) (s : Seen) (error : ℕ) → Keeps r s → Room r s 0 0 → s.waits ≡ false
    → s.met ≡ Crowded error → Comes may_retry s (crowded may_retry error r)
crowded_comes may_retry r s error k room waits met = by_case (r.kept == 0) refl
  where
    by_case : (none : Bool) → (r.kept == 0) ≡ none
        → Comes may_retry s (if none then again may_retry r error else Again r)
    by_case true is = again_comes may_retry r s error k room (eqb-true r.kept 0 is) waits (inl (inl met))
    by_case false is =
        goes_next may_retry r s (Crowded error) k room waits met refl (λ none. absurd (eqb-false r.kept 0 is none))

-- ---- what a call leaves

idle_few : (b : Bool) (n : ℕ) → n ≤ 32 → (if b then 0 else n) ≤ 32
idle_few true n few = omega arith
idle_few false n few = few

idle_none : (removed n : ℕ) → 0 < removed → (if nat_lt 0 removed then 0 else n) ≡ 0
idle_none removed n some = ap (λ (b : Bool). if b then 0 else n) (lt-ltb 0 removed some)

-- with so many tries
call_keeps : (r : Removal) (s : Seen) (root : Bool) (tries removed : ℕ) (met : Met) → Keeps r s
    → tries ≡ (if root then suc s.idle else s.idle) → tries ≤ 32
    → Keeps (called (record r { idle = tries }) removed) (called_by s root removed met)
call_keeps r s root tries removed met k is few =
    let was = k.removed in
    record {
      outermost = k.outermost;
      fits = k.fits;
      kept = k.kept;
      removed = omega (arith, was);
      idle = ap (λ n. if nat_lt 0 removed then 0 else n) is;
      tries = idle_few (nat_lt 0 removed) (if root then suc s.idle else s.idle) (subst (λ n. n ≤ 32) is few);
    }

call_room : (asked kept idle deeper more was removed now owed : ℕ) (b : Bool) → nat_lt 0 removed ≡ b
    → asked + 2 * kept + (32 - idle) + 0 ≤ 4 * deeper + 34 * was + 32 + 0 → suc (32 - now) ≤ (32 - idle) + owed
    → suc asked + 2 * kept + (32 - (if b then 0 else now)) + 4 * more
    ≤ 4 * (deeper + more) + 34 * (was + removed) + 32 + owed
call_room asked kept idle deeper more was removed now owed true is room paid =
    let some = ltb-true 0 removed is in omega (arith, some, room)
call_room asked kept idle deeper more was removed now owed false is room paid = omega (arith, room, paid)

bound_room : (asked kept idle deeper was removed n : ℕ) → 0 < removed
    → asked + 2 * kept + (32 - idle) + 0 ≤ 4 * deeper + 34 * was + 32 + 0
    → suc asked + 2 * kept + (32 - n) + 0 ≤ 4 * (deeper + 0) + 34 * (was + removed) + 32 + 0
bound_room asked kept idle deeper was removed n some room = omega (arith, some, room)

-- ---- a call at the root

root_room : (r : Removal) (s : Seen) (removed : ℕ) (met : Met) → Room r s 0 0 → s.idle < 32
    → Room (called (tried r) removed) (called_by s true removed met) (4 * (if is_deeper met then 1 else 0)) 0
root_room r s removed met room few =
    call_room s.asked r.kept s.idle s.deeper (if is_deeper met then 1 else 0) s.removed removed (suc s.idle) 0
    (nat_lt 0 removed) refl room (omega (arith, few))

root_goes : (may_retry : Bool) (r : Removal) (s : Seen) (removed : ℕ) (met : Met) → Next may_retry r s → r.kept ≡ 0
    → s.idle < 32 → (met ≡ Bound → 0 < removed)
    → Goes (watch may_retry) 1 (called_by s true removed met) (at_root may_retry (called (tried r) removed) met)
    (Comes may_retry)
unfolding at_root
root_goes may_retry r s removed met h none few bound = by_met met bound
  where
    room : (m : Met) → Room (called (tried r) removed) (called_by s true removed m) (4 * (if is_deeper m then 1 else 0)) 0
    room m = root_room r s removed m h.room few

    keeps : (m : Met) → Keeps (called (tried r) removed) (called_by s true removed m)
    keeps m =
        let same = h.keeps.idle in
        call_keeps r s true (min (r.idle + 1) (2 ^ 32 - 1)) removed m h.keeps (omega (arith, same, few))
        (omega (arith, same, few))

    empty : s.kept ≡ []
    empty = h.keeps.kept ∙ ap (ring r.outermost) none

    by_met : (m : Met) → (m ≡ Bound → 0 < removed)
        → Goes (watch may_retry) 1 (called_by s true removed m) (at_root may_retry (called (tried r) removed) m)
        (Comes may_retry)
    by_met Gone b =
        let much = room Gone in
        over (record {
          waits = refl;
          few = omega (arith, much);
          by = (empty, record { root = refl; met = refl; sum = (keeps Gone).removed });
        })
    by_met Deeper b =
        let much = room Deeper in
        keep_goes may_retry (called (tried r) removed) (called_by s true removed Deeper) (keeps Deeper) (omega (arith, much))
        (omega (arith, none)) refl refl
    by_met Bound b =
        let zero_idle = idle_none removed (suc s.idle) (b refl) in
        over (goes_next may_retry (called (tried r) removed) (called_by s true removed Bound) Bound (keeps Bound)
        (bound_room s.asked r.kept s.idle s.deeper s.removed removed (called_by s true removed Bound).idle (b refl)
        h.room)
        refl refl refl (λ _. (omega (arith, zero_idle), λ some. absurd (some zero_idle))))
    by_met (Crowded error) b =
        over (again_comes may_retry (called (tried r) removed) (called_by s true removed (Crowded error)) error
        (keeps (Crowded error)) (room (Crowded error)) none refl (inl (inl refl)))
    by_met (Failed error) b =
        over (again_comes may_retry (called (tried r) removed) (called_by s true removed (Failed error)) error
        (keeps (Failed error)) (room (Failed error)) none refl (inl (inr refl)))

-- ---- a call in a place

below : (n : ℕ) → n ≤ 16 → n ≢ 16 → n < 16
below n fits other = omega (arith, fits, other)

place_goes : (may_retry : Bool) (r : Removal) (s : Seen) (removed : ℕ) (met : Met) → Next may_retry r s → 0 < r.kept
    → (met ≡ Bound → 0 < removed)
    → Goes (watch may_retry) 16 (called_by s false removed met) (in_place may_retry (called r removed) met)
    (Comes may_retry)
unfolding in_place
place_goes may_retry r s removed met h some bound = by_met met bound
  where
    fits : r.kept ≤ 16
    fits = h.keeps.fits

    tries : s.idle ≤ 32
    tries = h.keeps.tries

    keeps : (m : Met) → Keeps (called r removed) (called_by s false removed m)
    keeps m =
        let same = h.keeps.idle in
        call_keeps r s false r.idle removed m h.keeps same (omega (arith, same, tries))

    room : (m : Met) → Room (called r removed) (called_by s false removed m) (4 * (if is_deeper m then 1 else 0)) 1
    room m =
        call_room s.asked r.kept s.idle s.deeper (if is_deeper m then 1 else 0) s.removed removed s.idle 1
        (nat_lt 0 removed) refl h.room (omega arith)

    deeper : Room (called r removed) (called_by s false removed Deeper) 4 1
    deeper = room Deeper

    by_met : (m : Met) → (m ≡ Bound → 0 < removed)
        → Goes (watch may_retry) 16 (called_by s false removed m) (in_place may_retry (called r removed) m)
        (Comes may_retry)
    by_met Gone b =
        both 1 15 (inner_goes may_retry (called r removed) (called_by s false removed Gone) 0 (keeps Gone)
        (room Gone) some)
        (λ t left l. let more = l.room in over (over_comes may_retry left t l.keeps (omega (arith, more)) l.waits l.met))
    by_met Deeper b =
        choose (r.kept == 16)
        (λ _. both 1 15 (outer_goes may_retry (called r removed) (called_by s false removed Deeper) 4 (keeps Deeper)
        deeper some)
        (λ t left l. let more = l.room in
        let fewer = l.fewer in
        weak 1 (omega arith) (keep_goes may_retry left t l.keeps (omega (arith, more)) (omega (arith, fewer, fits, some))
        l.waits (ap (goes_on may_retry) l.met)) (λ u c is. is)))
        (λ not_full. let other = eqb-false r.kept 16 not_full in
        weak 1 (omega arith) (keep_goes may_retry (called r removed) (called_by s false removed Deeper) (keeps Deeper)
        (omega (arith, deeper)) (below r.kept fits other) refl refl) (λ u c is. is))
    by_met Bound b =
        over (goes_next may_retry (called r removed) (called_by s false removed Bound) Bound (keeps Bound)
        (bound_room s.asked r.kept s.idle s.deeper s.removed removed (called_by s false removed Bound).idle (b refl)
        h.room)
        refl refl refl (λ none. absurd (omega (arith, none, some))))
    by_met (Crowded error) b =
        both 1 15 (outer_goes may_retry (called r removed) (called_by s false removed (Crowded error)) 0
        (keeps (Crowded error)) (room (Crowded error)) some)
        (λ t left l. let more = l.room in
        over (crowded_comes may_retry left t error l.keeps (omega (arith, more)) l.waits l.met))
    by_met (Failed error) b =
        weak (r.kept + 0) (omega (arith, fits))
        (both r.kept 0 (all_go may_retry (called r removed) r.kept 0 (called_by s false removed (Failed error))
        (keeps (Failed error)) (room (Failed error)))
        (λ t left l. let more = l.room in
        over (again_comes may_retry left t error l.keeps (omega (arith, more, some)) l.fewer l.waits (inl (inr l.met)))))
        (λ u c is. is)

-- ---- a call, and what follows it

pause_is : (idle : ℕ) → idle < 32 → (next_try idle true EAGAIN false).pause ≡ pause_after idle
pause_is idle few = ap (λ b. (trying idle b).pause) (lt-ltb idle 32 few)

call_goes : (may_retry : Bool) (r : Removal) (s : Seen) → Next may_retry r s
    → Goes (watch may_retry) 17 s (a_call may_retry r) (Comes may_retry)
unfolding a_call call_at_root call_in_place
call_goes may_retry r s h = choose (r.kept == 0) at_the_root in_a_place
  where
    room : Room r s 0 0
    room = h.room

    same : r.idle ≡ s.idle
    same = h.keeps.idle

    at_the_root : (r.kept == 0) ≡ true
        → Goes (watch may_retry) 17 s (and_then (asking steps (AtRoot (pause_before r)))
        (λ a. at_root may_retry (called (tried r) a.removed) (met_of a))) (Comes may_retry)
    at_the_root is =
        let none = eqb-true r.kept 0 is in
        let begins = h.begins none in
        let few = begins.0 in
        asks_then 16 (AtRoot (pause_before r)) (
          omega (arith, room),
          record {
            kept = h.keeps.kept ∙ ap (ring r.outermost) none;
            goes = h.goes;
            waits = h.waits;
            after = pause_is r.idle (omega (arith, few, same)) ∙ ap pause_after same;
            tries = few;
            lets = begins.1;
          },
        )
        (λ a. weak 1 (omega arith)
        (root_goes may_retry r s a.removed (met_of a) h none few (λ met. (met_bound a met).2)) (λ t c it. it))

    in_a_place : (r.kept == 0) ≡ false
        → Goes (watch may_retry) 17 s (and_then (asking steps (InPlace (inner r)))
        (λ a. in_place may_retry (called r a.removed) (met_of a))) (Comes may_retry)
    in_a_place is =
        let some = above r.kept (eqb-false r.kept 0 is) in
        asks_then 16 (InPlace (inner r)) (
          omega (arith, room),
          record {
            around = ring r.outermost (r.kept - 1);
            kept = inner_first r s h.keeps some;
            goes = h.goes;
            waits = h.waits;
          },
        )
        (λ a. place_goes may_retry r s a.removed (met_of a) h some (λ met. (met_bound a met).2))

-- ---- a whole removal

abbrev HoldsFrom : Bool → ℕ → Type 0
HoldsFrom may_retry n =
    (r : Removal) (s : Seen) → Next may_retry r s
    → Goes (watch may_retry) (17 * n) s (calls may_retry n r) (Ends may_retry)

behind : (may_retry : Bool) (n : ℕ) → HoldsFrom may_retry n → (s : Seen) (c : Came) → Comes may_retry s c
    → Goes (watch may_retry) (17 * n) s (go_on (calls may_retry n) c) (Ends may_retry)
behind may_retry n rest s (Again r) is = rest r s is
behind may_retry n rest s (Removed count) is = over is
behind may_retry n rest s (Fails error) is = over is

one_more : (may_retry : Bool) (n : ℕ) → HoldsFrom may_retry n → HoldsFrom may_retry (suc n)
one_more may_retry n rest r s h =
    weak (17 + 17 * n) (omega arith) (both 17 (17 * n) (call_goes may_retry r s h) (behind may_retry n rest))
    (λ t c is. is)

none_left : (may_retry : Bool) → HoldsFrom may_retry zero
none_left may_retry r s h =
    let room = h.room in
    over (record {
      waits = h.waits;
      few = omega (arith, room);
      by = record { removed = h.keeps.removed; idle = h.keeps.idle; kept = h.keeps.kept };
    })

holds_from : (may_retry : Bool) (n : ℕ) → HoldsFrom may_retry n
holds_from may_retry zero = none_left may_retry
holds_from may_retry (suc n) = one_more may_retry n (holds_from may_retry n)

first : (may_retry : Bool) → Next may_retry begun at_first
first may_retry = record {
  keeps = record {
    outermost = omega arith;
    fits = omega arith;
    kept = refl;
    removed = omega arith;
    idle = refl;
    tries = omega arith;
  };
  room = omega arith;
  waits = refl;
  goes = refl;
  begins = λ _. (omega arith, λ some. absurd (some refl));
}

pub removals-hold : RemovalsHold
removals-hold may_retry n = (holds_from may_retry n begun at_first (first may_retry)).each
