-- What the calls of a conversation come to: where it stands, what is open, and what ends it.
use Rattle.std.specs.Prelude.{◌≡◌, ℕ, ◌+◌, ◌<◌, ◌≤◌, List, [], ◌∷◌, ◌==◌, Bool, true, false, not, ◌&&◌, ◌||◌, if◌then◌else◌, Option, Some, None, length, take, drop}
use Rattle.path_text.specs.Text.{is_empty, name_size}
use Rattle.path_text.specs.declared.path.TheConstants.{TEXT_MAX}
use Rattle.system_calls.specs.Errors.{ENOENT, EEXIST, EISDIR}
use Rattle.system_calls.specs.Tries.{TRIES}
use Rattle.open_or_make.specs.Pass.{LINKS, NO_STEP}
use Rattle.dialogue.specs.Holds.{WatchOf}
use Rattle.make_through_links.specs.Asking.{Call, closes, creates, finds, makes, makes_above, makings, opens_partly, reads_end, reads_link, splits, waits}
use Rattle.make_through_links.specs.Ends.{again, begin, ended}
use Rattle.make_through_links.specs.Pass.{end_read, link_read}
use Rattle.open_or_make.specs.Paths.{way}
use Rattle.open_or_make.specs.declared.asking.Outcome.{Outcome}
use Rattle.make_through_links.specs.declared.making.Came.{Came}
use Rattle.make_through_links.specs.declared.making.Came.TheVariants.{Failed, Fails, Again, Led}
use Rattle.make_through_links.specs.declared.making.Making.{Making}

-- The path; whether a file is wanted at its end, or a directory; whether a link that leads to what is missing may be
-- followed; and whether it may be tried again. The texts are what is read in each pass, of which the first one is 1.
pub record Wish : Type 0 where
  pub path : List ℕ
  pub file : Bool
  pub follows : Bool
  pub may_retry : Bool
  pub texts : ℕ → List ℕ

pub record Seen : Type 0 where
  -- the path of this pass, and how far the call has come
  pub making : Making
  pub path : List ℕ
  -- so much of the directories' path is there
  pub there : ℕ
  -- nothing is missing there any more: somebody came in between
  pub between : Bool
  -- the last call but one that closes has made the directories above the file
  pub made : Bool
  -- what is open
  pub held : List ℕ
  -- so many calls were made
  pub calls : ℕ
  -- how the last call ends it
  pub came : Option Came

abbrev pub at : Making → List ℕ → ℕ → Seen
at m path calls =
    record {
      making = m;
      path = path;
      there = 0;
      between = false;
      made = false;
      held = [];
      calls = calls;
      came = None;
    }

abbrev pub begun : Wish → Making
begun w = begin (length w.path) w.file w.follows w.may_retry

abbrev pub at_first : Wish → Seen
at_first w = at (begun w) w.path 0

abbrev pub text_for : Wish → Making → List ℕ
text_for w m = w.texts (m.links + m.tries)

-- ---- what an answer says

-- it opened this
abbrev pub opened : Outcome → List ℕ
opened a = if a.error == 0 then a.descriptor ∷ [] else []

-- A file that was found or made is the reply, and the last of the directories that were made is. What is missing, or
-- leads to what is missing, ends nothing (ENOENT), nor does what stands at a file's name (EEXIST).
abbrev pub says : Wish → Seen → Call → Outcome → Option Came
says w s (finds p) a =
    if (a.error == 0) && a.directory then Some (Fails EISDIR NO_STEP)
    else (if (a.error == ENOENT) && not (is_empty p) then None else Some (ended a))
says w s (splits p) a = if a.error == 0 then None else Some (Fails a.error NO_STEP)
says w s (makes_above p) a =
    if (a.error == 0) || ((a.error == ENOENT) && s.making.follows) then None else Some (Failed a.error)
says w s (makes p) a =
    if (a.error == ENOENT) && (s.making.follows && not (is_empty p)) then None else Some (ended a)
says w s (opens_partly p) a = if a.error == 0 then None else Some (Failed a.error)
says w s (reads_link p) a = Some (link_read s.making s.path s.there (text_for w s.making) a)
says w s (creates p) a = if a.error == EEXIST then None else Some (ended a)
says w s (reads_end p) a = Some (end_read s.making s.path (text_for w s.making) a)
says w s (closes fd) a = if s.between then Some (again s.making) else s.came
says w s (waits pause) a = None

-- ---- what comes of it

abbrev pub calls_by : ℕ → Call → ℕ
calls_by n (closes fd) = n
calls_by n (waits pause) = n
calls_by n _ = n + 1

abbrev pub held_by : Call → Outcome → List ℕ
held_by (finds p) a = opened a
held_by (makes_above p) a = opened a
held_by (makes p) a = opened a
held_by (opens_partly p) a = opened a
held_by (creates p) a = opened a
held_by _ a = []

abbrev pub made_by : Bool → Call → Outcome → Bool
made_by was (makes_above p) a = a.error == 0
made_by was (closes fd) a = was
made_by was _ a = false

abbrev pub making_by : Making → Call → Outcome → Making
making_by m (splits p) a = record m { above = a.rest; parted = true }
making_by m _ a = m

abbrev pub there_by : ℕ → Call → Outcome → ℕ
there_by was (opens_partly p) a = a.rest
there_by was (closes fd) a = was
there_by was _ a = 0

abbrev pub between_by : Call → Outcome → Bool
between_by (opens_partly p) a = (a.error == 0) && (name_size (drop a.rest p) == 0)
between_by _ a = false

abbrev pub seen_by : Seen → Call → Outcome → Option Came → Seen
seen_by s q a came =
    record {
      making = making_by s.making q a;
      path = s.path;
      there = there_by s.there q a;
      between = between_by q a;
      made = made_by s.made q a;
      held = held_by q a;
      calls = calls_by s.calls q;
      came = came;
    }

-- The next pass begins.
abbrev pub turned : Wish → Seen → Option Came → Seen
turned w s (Some (Again m)) = at m s.path s.calls
turned w s (Some (Led m front rest)) = at m (way s.path (text_for w s.making) front rest) s.calls
turned w s other = s

abbrev pub told : Wish → Seen → Call → Outcome → Option Came → Seen
told w s q a came = turned w (seen_by s q a came) came

abbrev pub after : Wish → Seen → Call → Outcome → Seen
after w s q a = told w s q a (says w s q a)

-- ---- where each call may come

-- The path is the program's own as long as no link was followed, and has 4,095 bytes at most then. 40 links are
-- followed at most, none without leave; each pass has five calls at most.
pub record IsOnItsWay (w : Wish) (m : Making) (path : List ℕ) : Type 0 where
  pub size : m.length ≡ length path
  pub file : m.file ≡ w.file
  pub follows : m.follows ≡ w.follows
  pub may_retry : m.may_retry ≡ w.may_retry
  pub tries : m.tries ≤ TRIES
  pub links : m.links ≤ LINKS
  pub own : m.links ≡ 0 → path ≡ w.path
  pub leave : w.follows ≡ false → m.links ≡ 0
  pub fits : 0 < m.links → length path ≤ TEXT_MAX

-- all that was opened was closed, and nothing ends the call
pub record GoesOn (w : Wish) (s : Seen) : Type 0 where
  pub way : IsOnItsWay w s.making s.path
  pub closed : s.held ≡ []
  pub unsaid : s.came ≡ None

-- the directories' path behind what is there
abbrev pub missing : Seen → List ℕ
missing s = drop s.there (take s.making.above s.path)

-- Each call walks its part of the path.
abbrev pub Walks : Seen → Call → Type 0
Walks s (finds p) = (p ≡ s.path) × (s.making.file ≡ true)
Walks s (splits p) = p ≡ s.path
Walks s (makes_above p) = (p ≡ take s.making.above s.path) × (s.making.file ≡ true)
Walks s (makes p) = (p ≡ take s.making.above s.path) × (s.making.file ≡ false)
-- it is looked for a link only where one may be followed
Walks s (opens_partly p) = (p ≡ take s.making.above s.path) × (s.making.follows ≡ true)
Walks s (reads_link p) =
    (p ≡ take (s.there + name_size (missing s)) (take s.making.above s.path))
    × ((name_size (missing s) == 0) ≡ false) × (s.making.follows ≡ true)
-- the directories above the file were made right before
Walks s (creates p) = (p ≡ s.path) × (s.made ≡ true)
Walks s (reads_end p) = p ≡ s.path
Walks s (closes fd) = ⊥
Walks s (waits pause) = pause ≡ s.making.pause

-- What a call gave is closed right after it, unless it is the reply.
abbrev pub May : Wish → Seen → Call → Type 0
May w s (closes fd) = s.held ≡ fd ∷ []
May w s q = GoesOn w s × Walks s q

abbrev pub watch : Wish → WatchOf makings Seen
watch w = record { by = λ s x. after w s x.asked x.answer; May = May w }
