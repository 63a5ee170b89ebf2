-- What the calls of a conversation come to: where it stands, and what ends it.
use Rattle.std.specs.Prelude.{◌≡◌, ℕ, ◌+◌, ◌*◌, ◌<◌, ◌≤◌, List, ◌==◌, Bool, true, false, not, ◌&&◌, ◌||◌, if◌then◌else◌, Option, Some, None, length}
use Rattle.path_text.specs.declared.path.TheConstants.{TEXT_MAX}
use Rattle.system_calls.specs.Errors.{EAGAIN, EEXIST, ENOENT}
use Rattle.system_calls.specs.Tries.{TRIES, is_due, pause_after}
use Rattle.system_calls.specs.declared.opening.Opening.{Opening}
use Rattle.dialogue.specs.Holds.{WatchOf}
use Rattle.open_or_make.specs.Pass.{begin, between, ended, link_read, openings, LINKS, STEP_MAKE_FILE}
use Rattle.open_or_make.specs.Paths.{way}
use Rattle.open_or_make.specs.declared.asking.Outcome.{Outcome}
use Rattle.open_or_make.specs.declared.asking.Question.{Question}
use Rattle.open_or_make.specs.declared.asking.Question.TheVariants.{Find, Create, ReadLink, Wait}
use Rattle.open_or_make.specs.declared.course.Came.{Came}
use Rattle.open_or_make.specs.declared.course.Came.TheVariants.{Fails, Again, Led}
use Rattle.open_or_make.specs.declared.course.Course.{Course}

-- The path; what is done by the flags of open(2); whether links are refused; and whether it may be tried again. The
-- texts are what is read in each pass, of which the first one is 0.
pub record Wish : Type 0 where
  pub path : List ℕ
  pub opening : Opening
  pub no_links : Bool
  pub may_retry : Bool
  pub texts : ℕ → List ℕ

pub record Seen : Type 0 where
  -- how far the call has come before this pass, and the pass's path: each call is made on that
  pub course : Course
  pub path : List ℕ
  -- so many calls were made, in this pass and in all
  pub step : ℕ
  pub calls : ℕ
  -- how the last call ends it
  pub came : Option Came

abbrev pub at : Course → List ℕ → ℕ → Seen
at c path calls = record { course = c; path = path; step = 0; calls = calls; came = None }

abbrev pub begun : Wish → Course
begun w = begin (length w.path) w.opening w.no_links w.may_retry

abbrev pub at_first : Wish → Seen
at_first w = at (begun w) w.path 0

abbrev pub text_for : Wish → Course → List ℕ
text_for w c = w.texts (c.links + c.between)

-- ---- what an answer says

-- no further try is due, of what is missing again
abbrev pub is_last : Course → Bool
is_last c = c.again && not (is_due c.between c.may_retry EAGAIN false)

-- What was found is the reply, and what was made is. What is missing ends nothing if it is to be made (ENOENT), unless
-- that takes one try too many; nor does what stands there though it wasn't found (EEXIST), if a link may be read.
abbrev pub says : Wish → Seen → Question → Outcome → Option Came
says w s Find a =
    if not (a.error == ENOENT) || not s.course.makes then Some (ended a)
    else (if is_last s.course then Some (Fails EAGAIN STEP_MAKE_FILE) else None)
says w s Create a =
    if not (a.error == EEXIST) || not s.course.finds then Some (ended a)
    else (if not s.course.follows then Some (between s.course) else None)
says w s ReadLink a = Some (link_read s.course s.path (text_for w s.course) a)
says w s (Wait pause) a = None

-- ---- what comes of it

abbrev pub one_on : ℕ → Question → ℕ
one_on n (Wait pause) = n
one_on n q = n + 1

-- The next pass begins.
abbrev pub turned : Wish → Seen → Option Came → Seen
turned w s (Some (Again c)) = at c s.path s.calls
turned w s (Some (Led c front)) = at c (way s.path (text_for w s.course) front (length s.path)) s.calls
turned w s other = s

abbrev pub told : Wish → Seen → Question → Option Came → Seen
told w s q came =
    turned w
    (record { course = s.course; path = s.path; step = one_on s.step q; calls = one_on s.calls q; came = came }) came

abbrev pub after : Wish → Seen → Question → Outcome → Seen
after w s q a = told w s q (says w s q a)

-- ---- where each call may come

-- what is done, by the flags
abbrev pub IsOf : Wish → Course → Type 0
IsOf w c =
    (c.error ≡ w.opening.error) × (c.finds ≡ w.opening.finds) × (c.makes ≡ w.opening.makes)
    × (c.follows ≡ (w.opening.follows && not w.no_links)) × (c.may_retry ≡ w.may_retry)

-- The path is the program's own as long as no link was followed, and has 4,095 bytes at most then. 40 links are
-- followed at most, none without leave; there are 32 tries at most, and three calls in each pass. There is no second
-- pass but where what is missing is made.
pub record IsOnItsWay (w : Wish) (c : Course) (path : List ℕ) (calls : ℕ) : Type 0 where
  pub size : c.length ≡ length path
  pub wished : IsOf w c
  pub links : c.links ≤ LINKS
  pub tries : c.between ≤ TRIES
  pub left : c.again ≡ false → c.between < TRIES
  pub once : (c.finds && c.makes) ≡ false → c.links + c.between ≡ 0
  pub own : c.links ≡ 0 → path ≡ w.path
  pub leave : c.follows ≡ false → c.links ≡ 0
  pub fits : 0 < c.links → length path ≤ TEXT_MAX
  pub few : calls ≤ 3 * (c.links + c.between)

-- no answer ended the call, and the flags aren't refused
pub record GoesOn (w : Wish) (s : Seen) : Type 0 where
  pub before : ℕ
  pub way : IsOnItsWay w s.course s.path before
  pub calls : s.calls ≡ before + s.step
  pub good : s.course.error ≡ 0
  pub unsaid : s.came ≡ None

-- What is there is looked for first. What is missing is made. What stands there all the same is read.
abbrev pub Follows : Seen → Question → Type 0
Follows s Find = (s.step ≡ 0) × (s.course.finds ≡ true)
Follows s Create = (s.step ≡ (if s.course.finds then 1 else 0)) × (s.course.finds ≡ true → s.course.makes ≡ true)
Follows s ReadLink =
    (s.step ≡ 2) × (s.course.follows ≡ true) × ((s.course.finds && s.course.makes) ≡ true)
Follows s (Wait pause) =
    (s.step ≡ 1) × (s.course.again ≡ true) × ((s.course.finds && s.course.makes) ≡ true)
    × (pause ≡ pause_after s.course.between)

abbrev pub May : Wish → Seen → Question → Type 0
May w s q = GoesOn w s × Follows s q

abbrev pub watch : Wish → WatchOf openings Seen
watch w = record { by = λ s x. after w s x.asked x.answer; May = May w }
