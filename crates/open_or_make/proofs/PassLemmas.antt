-- What one pass over the path asks, and what it comes to.
use Rattle.std.proofs.Common.{◌≡◌, ◌≤◌, ◌<◌, ℕ, ◌+◌, ◌-◌, ◌^◌, List, Bool, true, false, ◌||◌, if◌then◌else◌, refl, sym, ap, ◌∙◌, arith, nat_lt, min, length}
use Rattle.std.specs.Prelude.{◌==◌, not, ◌&&◌, suc, Some, None}
use Rattle.std.proofs.Math.Nat.{min-eq_left}
use Rattle.std.proofs.lemmas.Bool.{false≢true, ltb-true, ltb-false}
use Rattle.path_text.specs.Text.{is_empty}
use Rattle.path_text.specs.declared.path.TheConstants.{TEXT_MAX}
use Rattle.system_calls.specs.Errors.{EAGAIN, EEXIST, EINVAL, ENAMETOOLONG, ENOENT, ELOOP}
use Rattle.system_calls.specs.Tries.{is_due, pause_after, TRIES}
use Rattle.dialogue.specs.Dialogue.{ends}
use Rattle.dialogue.proofs.HoldLemmas.{Goes, asks_then, choose, over, weak}
use Rattle.open_or_make.specs.Paths.{kept_length, led_to, way}
use Rattle.open_or_make.specs.Pass.{between, create, ended, find, led, link_read, make_missing, pass, read_link, tries_again, LINKS, NO_STEP, STEP_MAKE_FILE, STEP_READ_LINK}
use Rattle.open_or_make.specs.Promises.{CALLS_MAX}
use Rattle.open_or_make.specs.Seen.{GoesOn, IsOnItsWay, Seen, Wish, at, one_on, text_for, told, watch}
use Rattle.open_or_make.specs.declared.asking.Outcome.{Outcome}
use Rattle.open_or_make.specs.declared.asking.Question.{Question}
use Rattle.open_or_make.specs.declared.asking.Question.TheVariants.{Find, Create, ReadLink, Wait}
use Rattle.open_or_make.specs.declared.course.Came.{Came}
use Rattle.open_or_make.specs.declared.course.Came.TheVariants.{Given, Failed, Fails, Again, Led}
use Rattle.open_or_make.specs.declared.course.Course.{Course}
use Rattle.open_or_make.proofs.PathLemmas.{links-lead}

-- ---- how a pass ends

-- where the next one begins, behind so many links and tries
pub record Next (w : Wish) (n : ℕ) (c : Course) (path : List ℕ) (calls : ℕ) : Type 0 where
  pub way : IsOnItsWay w c path calls
  pub more : c.links + c.between ≡ suc n

-- what an answer says fits a pass over this path, with this text, behind so many calls
abbrev FitsIn : Wish → List ℕ → List ℕ → ℕ → ℕ → Came → Type 0
FitsIn w path text n calls (Again c) = Next w n c path calls
FitsIn w path text n calls (Led c front) = Next w n c (way path text front (length path)) calls
FitsIn w path text n calls other = calls ≤ CALLS_MAX

abbrev ComesIn : Wish → List ℕ → List ℕ → ℕ → Seen → Came → Type 0
ComesIn w path text n t (Again c) = (t ≡ at c path t.calls) × Next w n c path t.calls
ComesIn w path text n t (Led c front) =
    (t ≡ at c (way path text front (length path)) t.calls)
    × Next w n c (way path text front (length path)) t.calls
ComesIn w path text n t other = (t.came ≡ Some other) × (t.calls ≤ CALLS_MAX)

-- the same from a state of the pass on
abbrev Fits : Wish → Seen → ℕ → Came → Type 0
Fits w s calls c = FitsIn w s.path (text_for w s.course) (s.course.links + s.course.between) calls c

abbrev pub Comes : Wish → Seen → Seen → Came → Type 0
Comes w s t c = ComesIn w s.path (text_for w s.course) (s.course.links + s.course.between) t c

says_so : (w : Wish) (s : Seen) (q : Question) (c : Came) → Fits w s (one_on s.calls q) c
    → Comes w s (told w s q (Some c)) c
says_so w s q (Given fd) fits = (refl, fits)
says_so w s q (Failed error) fits = (refl, fits)
says_so w s q (Fails error step) fits = (refl, fits)
says_so w s q (Again c) fits = (refl, fits)
says_so w s q (Led c front) fits = (refl, fits)

-- ---- what an answer says

ended_fits : (w : Wish) (s : Seen) (a : Outcome) (calls : ℕ) → calls ≤ CALLS_MAX → Fits w s calls (ended a)
ended_fits w s a calls few = by_case (a.error == 0)
  where
    by_case : (b : Bool) → Fits w s calls (if b then Given a.descriptor else Failed a.error)
    by_case true = few
    by_case false = few

-- the calls of this pass are three at most
few_calls : (w : Wish) (s : Seen) → GoesOn w s → s.course.between < TRIES → s.step ≤ 2 → s.calls + 1 ≤ CALLS_MAX
few_calls w s h left most =
    let before = h.way.few in
    let links = h.way.links in
    let calls = h.calls in
    omega (arith, before, links, calls, left, most)

first_few : (w : Wish) (s : Seen) → GoesOn w s → s.step ≡ 0 → s.calls + 1 ≤ CALLS_MAX
first_few w s h step =
    let before = h.way.few in
    let links = h.way.links in
    let tries = h.way.tries in
    let calls = h.calls in
    omega (arith, before, links, tries, calls, step)

once_more : (n : ℕ) → n < TRIES → min (n + 1) (2 ^ 32 - 1) ≡ n + 1
once_more n few = min-eq_left (omega (arith, few))

-- what is missing is made
abbrev Twice : Seen → Type 0
Twice s = (s.course.finds && s.course.makes) ≡ true

between_fits : (w : Wish) (s : Seen) → GoesOn w s → s.course.between < TRIES → s.step ≤ 2 → Twice s
    → Fits w s (s.calls + 1) (between s.course)
between_fits w s h left most twice =
    let one = once_more s.course.between left in
    let before = h.way.few in
    let calls = h.calls in
    record {
      way = record {
        size = h.way.size;
        wished = h.way.wished;
        links = h.way.links;
        tries = omega (arith, one, left);
        left = λ no. absurd (false≢true (sym no));
        once = λ no. absurd (false≢true (sym no ∙ twice));
        own = h.way.own;
        leave = h.way.leave;
        fits = h.way.fits;
        few = omega (arith, one, before, calls, most);
      };
      more = omega (arith, one);
    }

led_fits : (w : Wish) (s : Seen) → GoesOn w s → s.course.between < TRIES → s.step ≤ 2 → s.course.follows ≡ true
    → Twice s → Fits w s (s.calls + 1) (led s.course s.path (text_for w s.course))
led_fits w s h left most leave twice =
    by_case (nat_lt TEXT_MAX (length new)) (nat_lt s.course.links LINKS) refl refl
  where
    text : List ℕ
    text = text_for w s.course

    new : List ℕ
    new = led_to s.path text

    by_case : (long room : Bool) → nat_lt TEXT_MAX (length new) ≡ long → nat_lt s.course.links LINKS ≡ room
        → Fits w s (s.calls + 1) (if long then Fails ENAMETOOLONG STEP_READ_LINK
        else (if room
        then Led (record s.course { length = length new; links = s.course.links + 1; again = false })
        (kept_length s.path text)
        else Fails ELOOP STEP_READ_LINK))
    by_case true room is more = few_calls w s h left most
    by_case false false is more = few_calls w s h left most
    by_case false true is more =
        let short = ltb-false TEXT_MAX (length new) is in
        let few = ltb-true s.course.links LINKS more in
        let before = h.way.few in
        let calls = h.calls in
        let same = ap length (links-lead s.path text) in
        record {
          way = record {
            size = sym same;
            wished = h.way.wished;
            links = omega (arith, few);
            tries = h.way.tries;
            left = λ no. left;
            once = λ no. absurd (false≢true (sym no ∙ twice));
            own = λ none. absurd (omega (arith, none));
            leave = λ no. absurd (false≢true (sym no ∙ leave));
            fits = λ some. omega (arith, short, same);
            few = omega (arith, before, calls, most);
          };
          more = omega arith;
        }

link_fits : (w : Wish) (s : Seen) (a : Outcome) → GoesOn w s → s.course.between < TRIES → s.step ≤ 2
    → s.course.follows ≡ true → Twice s → Fits w s (s.calls + 1) (link_read s.course s.path (text_for w s.course) a)
link_fits w s a h left most leave twice =
    by_case ((a.error == EINVAL) || (a.error == ENOENT)) (not (a.error == 0)) (is_empty (text_for w s.course))
  where
    by_case : (none bad empty : Bool) → Fits w s (s.calls + 1)
        (if none then between s.course
        else (if bad then Failed a.error
        else (if empty then between s.course else led s.course s.path (text_for w s.course))))
    by_case true bad empty = between_fits w s h left most twice
    by_case false true empty = few_calls w s h left most
    by_case false false true = between_fits w s h left most twice
    by_case false false false = led_fits w s h left most leave twice

-- ---- from one call to the next

counted : (q : Question) (calls before step : ℕ) → calls ≡ before + step → one_on calls q ≡ before + one_on step q
counted Find calls before step is = omega (arith, is)
counted Create calls before step is = omega (arith, is)
counted ReadLink calls before step is = omega (arith, is)
counted (Wait pause) calls before step is = is

-- behind an answer that ends nothing
onwards : (w : Wish) (s : Seen) (q : Question) → GoesOn w s → GoesOn w (told w s q None)
onwards w s q h =
    record {
      before = h.before;
      way = h.way;
      calls = counted q s.calls h.before s.step h.calls;
      good = h.good;
      unsaid = refl;
    }

reads_goes : (w : Wish) (s : Seen) → GoesOn w s → s.course.between < TRIES → s.step ≡ 2 → s.course.follows ≡ true
    → Twice s → Goes (watch w) 1 s (read_link s.course s.path (text_for w s.course)) (Comes w s)
unfolding read_link
reads_goes w s h left step leave twice =
    asks_then 0 ReadLink (h, (step, leave, twice))
    (λ a. over (says_so w s ReadLink (link_read s.course s.path (text_for w s.course) a)
    (link_fits w s a h left (omega (arith, step)) leave twice)))

few_steps : (b : Bool) (n : ℕ) → n ≡ (if b then 1 else 0) → n ≤ 2
few_steps true n is = omega (arith, is)
few_steps false n is = omega (arith, is)

creates_goes : (w : Wish) (s : Seen) → GoesOn w s → s.course.between < TRIES
    → s.step ≡ (if s.course.finds then 1 else 0) → (s.course.finds ≡ true → s.course.makes ≡ true)
    → Goes (watch w) 2 s (create s.course s.path (text_for w s.course)) (Comes w s)
unfolding create
creates_goes w s h left step makes =
    asks_then 1 Create (h, (step, makes))
    (λ a. by_case a (not (a.error == EEXIST)) s.course.finds s.course.follows refl refl)
  where
    few : s.step ≤ 2
    few = few_steps s.course.finds s.step step

    twice : s.course.finds ≡ true → Twice s
    twice is = ap (λ b. b && s.course.makes) is ∙ makes is

    by_case : (a : Outcome) (other finds follows : Bool) → s.course.finds ≡ finds → s.course.follows ≡ follows
        → Goes (watch w) 1
        (told w s Create (if other || not finds then Some (ended a)
        else (if not follows then Some (between s.course) else None)))
        (if other || not finds then ends (ended a)
        else (if not follows then ends (between s.course) else read_link s.course s.path (text_for w s.course)))
        (Comes w s)
    by_case a true finds follows is leave =
        over (says_so w s Create (ended a) (ended_fits w s a (s.calls + 1) (few_calls w s h left few)))
    by_case a false false follows is leave =
        over (says_so w s Create (ended a) (ended_fits w s a (s.calls + 1) (few_calls w s h left few)))
    by_case a false true false is leave =
        over (says_so w s Create (between s.course) (between_fits w s h left few (twice is)))
    by_case a false true true is leave =
        reads_goes w (told w s Create None) (onwards w s Create h) left
        (ap (λ n. n + 1) (step ∙ ap (λ b. if b then 1 else 0) is)) leave (twice is)

few_tries : (n : ℕ) (may : Bool) → is_due n may EAGAIN false ≡ true → n < TRIES
few_tries n true is = ltb-true n TRIES is
few_tries n false is = absurd (false≢true is)

-- ---- nothing was found

missing_goes : (w : Wish) (s : Seen) → GoesOn w s → s.step ≡ 0 → s.course.finds ≡ true → s.course.makes ≡ true
    → Goes (watch w) 3
    (told w s Find (if s.course.again && not (is_due s.course.between s.course.may_retry EAGAIN false)
    then Some (Fails EAGAIN STEP_MAKE_FILE) else None)) (make_missing s.course s.path (text_for w s.course)) (Comes w s)
unfolding make_missing
missing_goes w s h step finds makes =
    by_case s.course.again (is_due s.course.between s.course.may_retry EAGAIN false) refl refl
  where
    first : (n : ℕ) → n ≡ 1 → n ≡ (if s.course.finds then 1 else 0)
    first n is = is ∙ sym (ap (λ b. if b then 1 else 0) finds)

    behind : Seen
    behind = told w s Find None

    on : GoesOn w behind
    on = onwards w s Find h

    at_one : s.step + 1 ≡ 1
    at_one = omega (arith, step)

    creates : s.course.between < TRIES → Goes (watch w) 2 behind (create s.course s.path (text_for w s.course))
        (Comes w s)
    creates left = creates_goes w behind on left (first (s.step + 1) at_one) (λ _. makes)

    tries : s.course.again ≡ true → s.course.between < TRIES
        → Goes (watch w) 3 behind (tries_again s.course s.path (text_for w s.course)) (Comes w s)
    tries again left =
        choose (nat_lt 0 (pause_after s.course.between))
        (λ _. asks_then 2 (Wait (pause_after s.course.between))
        (on, (at_one, again, ap (λ b. b && s.course.makes) finds ∙ makes, refl))
        (λ a. creates_goes w (told w behind (Wait (pause_after s.course.between)) None)
        (onwards w behind (Wait (pause_after s.course.between)) on) left (first (s.step + 1) at_one) (λ _. makes)))
        (λ _. weak 2 (omega arith) (creates left) (λ t c done. done))

    by_case : (again due : Bool) → s.course.again ≡ again
        → is_due s.course.between s.course.may_retry EAGAIN false ≡ due
        → Goes (watch w) 3 (told w s Find (if again && not due then Some (Fails EAGAIN STEP_MAKE_FILE) else None))
        (if not again then create s.course s.path (text_for w s.course)
        else (if due then tries_again s.course s.path (text_for w s.course) else ends (Fails EAGAIN STEP_MAKE_FILE)))
        (Comes w s)
    by_case false due is more = weak 2 (omega arith) (creates (h.way.left is)) (λ t c done. done)
    by_case true true is more = tries is (few_tries s.course.between s.course.may_retry more)
    by_case true false is more = over (says_so w s Find (Fails EAGAIN STEP_MAKE_FILE) (first_few w s h step))

finds_goes : (w : Wish) (s : Seen) → GoesOn w s → s.step ≡ 0 → s.course.finds ≡ true
    → Goes (watch w) 4 s (find s.course s.path (text_for w s.course)) (Comes w s)
unfolding find
finds_goes w s h step finds =
    asks_then 3 Find (h, (step, finds)) (λ a. by_case a (not (a.error == ENOENT)) s.course.makes refl)
  where
    by_case : (a : Outcome) (other makes : Bool) → s.course.makes ≡ makes
        → Goes (watch w) 3
        (told w s Find (if other || not makes then Some (ended a)
        else (if s.course.again && not (is_due s.course.between s.course.may_retry EAGAIN false)
        then Some (Fails EAGAIN STEP_MAKE_FILE) else None)))
        (if other || not makes then ends (ended a) else make_missing s.course s.path (text_for w s.course)) (Comes w s)
    by_case a true makes is = over (says_so w s Find (ended a) (ended_fits w s a (s.calls + 1) (first_few w s h step)))
    by_case a false false is = over (says_so w s Find (ended a) (ended_fits w s a (s.calls + 1) (first_few w s h step)))
    by_case a false true is = missing_goes w s h step finds is

-- ---- a whole pass

-- no flags are refused
pub pass_goes : (w : Wish) (s : Seen) → GoesOn w s → s.step ≡ 0
    → Goes (watch w) 4 s (pass s.course s.path (text_for w s.course)) (Comes w s)
unfolding pass
pass_goes w s h step =
    choose (not (s.course.error == 0))
    (λ bad. absurd (false≢true (ap (λ n. not (n == 0)) (sym h.good) ∙ bad)))
    (λ _. choose s.course.finds (finds_goes w s h step)
    (λ no. weak 2 (omega arith)
    (creates_goes w s h (new no) (step ∙ sym (ap (λ b. if b then 1 else 0) no))
    (λ is. absurd (false≢true (sym no ∙ is)))) (λ t c done. done)))
  where
    new : s.course.finds ≡ false → s.course.between < TRIES
    new isnt = let none = h.way.once (ap (λ b. b && s.course.makes) isnt) in omega (arith, none)

-- refused flags make no call
pub refused_goes : (w : Wish) (s : Seen) → (s.course.error == 0) ≡ false
    → Goes (watch w) 0 s (pass s.course s.path (text_for w s.course))
    (λ t c. (t ≡ s) × (c ≡ Fails s.course.error NO_STEP))
unfolding pass
refused_goes w s bad =
    choose (not (s.course.error == 0)) (λ _. over (refl, refl))
    (λ good. absurd (false≢true (sym good ∙ ap not bad)))
