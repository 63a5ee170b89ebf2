-- What a whole call comes to, pass after pass.
use Rattle.std.proofs.Common.{◌≡◌, ℕ, ◌+◌, List, Bool, true, false, ◌||◌, if◌then◌else◌, refl, sym, ap, subst, ◌∙◌, arith, inl, inr, length}
use Rattle.std.specs.Prelude.{◌==◌, not, ◌&&◌, zero, suc, Some, None}
use Rattle.std.proofs.lemmas.Bool.{eqb-true, false≢true}
use Rattle.system_calls.specs.Errors.{EAGAIN, EEXIST, ENOENT}
use Rattle.dialogue.specs.Holds.{EachHolds}
use Rattle.dialogue.proofs.HoldLemmas.{Goes, both, over, weak}
use Rattle.open_or_make.specs.Pass.{between, ended, NO_STEP, STEP_MAKE_FILE}
use Rattle.open_or_make.specs.Paths.{way}
use Rattle.open_or_make.specs.Promises.{CallsHold, Ends, OneCallIsAll, go_on, open_all, passes, PASSES}
use Rattle.open_or_make.specs.Seen.{GoesOn, IsOnItsWay, May, Seen, Wish, after, at, at_first, begun, is_last, text_for, told, watch}
use Rattle.open_or_make.specs.declared.asking.Question.{Question}
use Rattle.open_or_make.specs.declared.asking.Question.TheVariants.{Find, Create, ReadLink, Wait}
use Rattle.open_or_make.specs.declared.course.Came.{Came}
use Rattle.open_or_make.specs.declared.course.Came.TheVariants.{Given, Failed, Fails, Again, Led}
use Rattle.open_or_make.specs.declared.course.Course.{Course}
use Rattle.open_or_make.proofs.PassLemmas.{Comes, Next, pass_goes, refused_goes}

abbrev exchanges : ℕ → ℕ
exchanges zero = 0
exchanges (suc n) = 4 + exchanges n

-- what holds of each call from its pass on, before which so many may come
abbrev HoldsFrom : Wish → ℕ → Type 0
HoldsFrom w n =
    (c : Course) (path : List ℕ) (calls : ℕ) → IsOnItsWay w c path calls → c.links + c.between + n ≡ 73
    → Goes (watch w) (exchanges n) (at c path calls) (passes w n c path) (Ends w)

one_more : (w : Wish) (n : ℕ) → w.opening.error ≡ 0 → HoldsFrom w n → HoldsFrom w (suc n)
one_more w n good rest c path calls h all =
    both 4 (exchanges n) (pass_goes w (at c path calls) begins refl) by_end
  where
    begins : GoesOn w (at c path calls)
    begins = record { before = calls; way = h; calls = omega arith; good = h.wished.0 ∙ good; unsaid = refl }

    next : (t : Seen) (now : Course) (to : List ℕ) → t ≡ at now to t.calls → Next w (c.links + c.between) now to t.calls
        → Goes (watch w) (exchanges n) t (passes w n now to) (Ends w)
    next t now to is h_now =
        let more = h_now.more in
        subst (λ u. Goes (watch w) (exchanges n) u (passes w n now to) (Ends w)) (sym is)
        (rest now to t.calls h_now.way (omega (arith, all, more)))

    by_end : (t : Seen) (came : Came) → Comes w (at c path calls) t came
        → Goes (watch w) (exchanges n) t (go_on w (passes w n) c path came) (Ends w)
    by_end t (Given fd) is = over (record { is = tt; said = inl is.0; few = is.1 })
    by_end t (Failed error) is = over (record { is = tt; said = inl is.0; few = is.1 })
    by_end t (Fails error step) is = over (record { is = tt; said = inl is.0; few = is.1 })
    by_end t (Again now) is = next t now path is.0 is.1
    by_end t (Led now front) is = next t now (way path (text_for w c) front (length path)) is.0 is.1

passes_go : (w : Wish) (n : ℕ) → w.opening.error ≡ 0 → HoldsFrom w n
passes_go w zero good = λ c path calls h all.
    let tries = h.tries in
    let links = h.links in
    absurd (omega (arith, all, tries, links))
passes_go w (suc n) good = one_more w n good (passes_go w n good)

first_way : (w : Wish) → IsOnItsWay w (begun w) w.path 0
first_way w =
    record {
      size = refl;
      wished = (refl, refl, refl, refl, refl);
      links = omega arith;
      tries = omega arith;
      left = λ no. omega arith;
      once = λ no. refl;
      own = λ none. refl;
      leave = λ no. refl;
      fits = λ some. absurd (omega (arith, some));
      few = omega arith;
    }

-- flags that are refused
refused : (w : Wish) → (w.opening.error == 0) ≡ false
    → Goes (watch w) 292 (at_first w) (passes w PASSES (begun w) w.path) (Ends w)
refused w bad =
    weak 0 (omega arith) (both 0 0 (refused_goes w (at_first w) bad) by_end) (λ t c done. done)
  where
    by_end : (t : Seen) (came : Came) → (t ≡ at_first w) × (came ≡ Fails w.opening.error NO_STEP)
        → Goes (watch w) 0 t (go_on w (passes w 72) (begun w) w.path came) (Ends w)
    by_end t came is =
        let none : t.calls ≡ 0 = ap (λ u. u.calls) is.0 in
        subst (λ x. Goes (watch w) 0 t (go_on w (passes w 72) (begun w) w.path x) (Ends w)) (sym is.1)
        (over (record {
          is = tt;
          said = inr (none, (λ good. false≢true (sym bad ∙ ap (λ n. n == 0) good)), refl);
          few = omega (arith, none);
        }))

pub calls-hold : CallsHold
calls-hold w = by_case (w.opening.error == 0) refl
  where
    by_case : (good : Bool) → (w.opening.error == 0) ≡ good
        → EachHolds (watch w) 292 (at_first w) (open_all w) (Ends w)
    by_case true is = (passes_go w PASSES (eqb-true w.opening.error 0 is) (begun w) w.path 0 (first_way w) refl).each
    by_case false is = (refused w is).each

-- ---- where one call is all

both_true : (a b : Bool) → a ≡ true → (a && b) ≡ false → b ≡ false
both_true a b is isnt = sym (ap (λ x. x && b) is) ∙ isnt

no_calls : (w : Wish) (s : Seen) → GoesOn w s → (s.course.finds && s.course.makes) ≡ false → s.step ≡ 0 → s.calls ≡ 0
no_calls w s h once step =
    let none = h.way.once once in
    let few = h.way.few in
    let calls = h.calls in
    omega (arith, none, few, calls, step)

pub one-call : OneCallIsAll
one-call w s q a once may = by_call q may
  where
    alone : GoesOn w s → (s.course.finds && s.course.makes) ≡ false
    alone h = ap (λ b. b && s.course.makes) h.way.wished.1 ∙ ap (λ b. w.opening.finds && b) h.way.wished.2 ∙ once

    found : (other makes good : Bool) → makes ≡ false
        → (told w s Find (if other || not makes then Some (if good then Given a.descriptor else Failed a.error)
        else (if is_last s.course then Some (Fails EAGAIN STEP_MAKE_FILE) else None))).came
        ≡ Some (if good then Given a.descriptor else Failed a.error)
    found true makes true is = refl
    found true makes false is = refl
    found false false true is = refl
    found false false false is = refl
    found false true good is = absurd (false≢true (sym is))

    made : (other finds good : Bool) → finds ≡ false
        → (told w s Create (if other || not finds then Some (if good then Given a.descriptor else Failed a.error)
        else (if not s.course.follows then Some (between s.course) else None))).came
        ≡ Some (if good then Given a.descriptor else Failed a.error)
    made true finds true is = refl
    made true finds false is = refl
    made false false true is = refl
    made false false false is = refl
    made false true good is = absurd (false≢true (sym is))

    isnt_found : (finds makes : Bool) → (finds ≡ true → makes ≡ true) → (finds && makes) ≡ false → finds ≡ false
    isnt_found false makes may isnt = refl
    isnt_found true makes may isnt = absurd (false≢true (sym isnt ∙ may refl))

    by_call : (q : Question) → May w s q → (s.calls ≡ 0) × ((after w s q a).came ≡ Some (ended a))
    by_call Find may = (
      no_calls w s may.0 (alone may.0) may.1.0,
      found (not (a.error == ENOENT)) s.course.makes (a.error == 0)
          (both_true s.course.finds s.course.makes may.1.1 (alone may.0)),
    )
    by_call Create may =
        let isnt = isnt_found s.course.finds s.course.makes may.1.1 (alone may.0) in (
          no_calls w s may.0 (alone may.0) (may.1.0 ∙ ap (λ b. if b then 1 else 0) isnt),
          made (not (a.error == EEXIST)) s.course.finds (a.error == 0) isnt,
        )
    by_call ReadLink may = absurd (false≢true (sym (alone may.0) ∙ may.1.2))
    by_call (Wait pause) may = absurd (false≢true (sym (alone may.0) ∙ may.1.2))
