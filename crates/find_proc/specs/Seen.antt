-- What the exchanges of a conversation come to, except signals: what is open, and what answers showed.
use Rattle.std.specs.Prelude.{◌≡◌, ◌≢◌, ◌⊎◌, ℕ, List, [], ◌∷◌, ◌==◌, Bool, true, false, not, ◌&&◌, ◌||◌, if◌then◌else◌, Option, Some, None, Result, Ok, Err}
use Rattle.system_calls.specs.Errors.{EBADF, EBUSY, EINVAL, ENOSYS}
use Rattle.system_calls.specs.Held.{without}
use Rattle.dialogue.specs.Dialogue.{SystemCall, claims, closes, configures, copies_above, copies_proc, keeps, knows, look_up, mounts, new_proc, opens, reads_thread, releases, stats, stats_file_system}
use Rattle.dialogue.specs.Holds.{Watch, is_in}
use Rattle.dialogue.specs.declared.calls.Answer.{Answer}
use Rattle.find_proc.specs.Asks.{AT_FDCWD, SAME, above_error, file_told, has_number, is_short, proc_told}
use Rattle.find_proc.specs.Find.{AT_PROC, is_it, open_error}
use Rattle.find_proc.specs.declared.asks.File.{File}
use Rattle.find_proc.specs.declared.asks.Kept.{Kept}

-- what is wanted: a /proc for a call; or that the program's is looked at, a new one made, or one handed in
pub record Wish : Type 0 where
  pub kept : Kept
  -- the one at hand must be the very file
  pub surely : Bool
  -- for a call
  pub finds : Bool
  pub handed : Option ℕ

-- openat2(2) was asked for, and whether it is surely there; and then statx(2) had the number of a mount
pub data Floor : Type 0 where
  unasked : Floor
  asked : Bool → Floor
  shown : Floor

pub record Told : Type 0 where
  pub fd : ℕ
  pub file : File

pub record Seen : Type 0 where
  -- what was opened, and neither closed nor kept
  pub held : List ℕ
  -- the program's place is claimed, and neither filled nor free again
  pub claimed : Bool
  -- by which the program's place was filled
  pub filled : Option ℕ
  -- one is being handed in
  pub hands : Bool
  -- what was last seen to be of a proc(5) on a mount that follows links; or the copy of that
  pub proc : Option ℕ
  -- what fsmount(2) or open_tree(2) gave last
  pub made : Option ℕ
  -- in which the calling thread was read since
  pub thread : Option ℕ
  -- the last answer about a file
  pub told : Option Told
  -- an answer said that the one that is kept isn't the one
  pub denied : Bool
  -- how far it was asked what the kernel has
  pub floor : Floor
  -- the kernel lacks what the library needs
  pub lacks : Bool
  -- what fsopen(2) gave was asked to have only what is of processes
  pub restricted : Bool
  -- the last error that was met
  pub why : ℕ

-- nothing was asked yet
abbrev pub at_first : ℕ → Seen
at_first why =
    record {
      held = [];
      claimed = false;
      filled = None;
      hands = false;
      proc = None;
      made = None;
      thread = None;
      told = None;
      denied = false;
      floor = unasked;
      lacks = false;
      restricted = false;
      why = why;
    }

-- ---- descriptors

-- a new one: nothing is known of it but whether it is a copy of a proc(5)
abbrev pub gets : Seen → ℕ → Option ℕ → Seen
gets s fd proc = record s { held = fd ∷ s.held; proc = proc; thread = None; told = None }

abbrev pub makes : Seen → ℕ → Seen
makes s fd = record s { held = fd ∷ s.held; proc = None; made = Some fd; thread = None; told = None }

abbrev pub gets_none : Seen → ℕ → Seen
gets_none s why = record s { proc = None; thread = None; told = None; why = why }

-- `.` of it, or a copy of its number, is the same directory
abbrev pub copy_of : Option ℕ → ℕ → ℕ → Option ℕ
copy_of None fd copy = None
copy_of (Some proc) fd copy = if proc == fd then Some copy else None

-- ---- errors

-- of opening /proc by ENOSYS, if it isn't for want of a descriptor; of a copy by the system call's own
abbrev pub why_unopened : Seen → ℕ → ℕ
why_unopened s error = if s.hands then error else open_error error

-- of what is handed in
abbrev pub why_no_proc : Seen → ℕ → ℕ
why_no_proc s error = if s.hands then error else ENOSYS

-- of a proc(5); the one at hand is asked before
abbrev pub is_of : Option ℕ → ℕ → Bool
is_of None fd = false
is_of (Some proc) fd = proc == fd

-- ---- answers

abbrev pub lacking : Seen → Seen
lacking s = record s { floor = unasked; lacks = true; why = ENOSYS }

abbrev pub told_by : Wish → Seen → ℕ → Result File ℕ → Seen
told_by w s fd (Ok file) =
    record s {
      told = Some (record { fd = fd; file = file });
      denied = s.denied || ((fd == w.kept.fd) && not (is_it w.kept w.surely file));
    }
told_by w s fd (Err error) =
    record s {
      told = None;
      denied = s.denied || (fd == w.kept.fd);
      why = if is_of s.proc fd then error else s.why;
    }

abbrev pub stat_by : Wish → Seen → ℕ → Answer → Floor → Seen
stat_by w s fd a (asked known) =
    if has_number a then record s { floor = if known then shown else unasked } else lacking s
stat_by w s fd a _ = told_by w s fd (file_told a)

abbrev pub looked_by : Seen → ℕ → Result Bool ℕ → Seen
looked_by s fd (Ok true) = record s { proc = Some fd }
looked_by s fd (Ok false) = record s { proc = None; why = why_no_proc s EINVAL }
looked_by s fd (Err error) = record s { proc = None; why = why_no_proc s error }

abbrev pub seen_by : Wish → Seen → SystemCall → Answer → Seen
seen_by w s (look_up dir path flags resolve) a =
    if (a.error == EBADF) || is_short a.error then record s { floor = asked (a.error == EBADF) } else lacking s
seen_by w s (stats fd) a = stat_by w s fd a s.floor
seen_by w s (knows known) a = record s { floor = unasked }
seen_by w s (stats_file_system fd) a = looked_by s fd (proc_told a)
seen_by w s (opens dir path flags mode) a =
    if a.error == 0 then gets s a.value (copy_of s.proc dir a.value) else gets_none s (why_unopened s a.error)
seen_by w s (copies_above fd) a =
    if a.error == 0 then gets s a.value (copy_of s.proc fd a.value)
    else gets_none s (why_unopened s (above_error a.error))
seen_by w s (closes fd) a = record s { held = without fd s.held }
seen_by w s (claims handed_in) a =
    if a.error == 0 then record s { claimed = true; hands = handed_in }
    else record s { hands = handed_in; why = if handed_in then EBUSY else s.why }
seen_by w s (keeps fd device inode mount handed_in) a =
    record s { held = without fd s.held; claimed = false; filled = Some fd }
seen_by w s releases a = record s { claimed = false }
seen_by w s (reads_thread fd) a =
    if a.error == 0 then record s { thread = Some fd } else record s { thread = None; why = ENOSYS }
seen_by w s new_proc a =
    if a.error == 0 then record s { held = a.value ∷ s.held; restricted = false } else record s { why = a.error }
seen_by w s (configures fd true) a = record s { restricted = true }
seen_by w s (configures fd false) a = if a.error == 0 then s else record s { why = a.error }
seen_by w s (mounts fd) a = if a.error == 0 then makes s a.value else record s { why = a.error }
seen_by w s copies_proc a = if a.error == 0 then makes s a.value else s
seen_by w s _ a = s

-- ---- where each system call may be made

-- /proc is opened for a call alone, never if the program has handed one in, and no kept one is passed over unasked
pub record OpensProc (w : Wish) (s : Seen) (dir : ℕ) (path : List ℕ) : Type 0 where
  pub here : dir ≡ AT_FDCWD
  pub named : path ≡ AT_PROC
  pub finds : w.finds ≡ true
  pub alone : w.kept.handed_in ≡ false
  pub denied : w.kept.there ≡ true → s.denied ≡ true

-- it was made, is open, and has the calling thread
abbrev pub IsOwn : Seen → ℕ → Type 0
IsOwn s fd = (s.made ≡ Some fd) × (is_in fd s.held ≡ true) × (s.thread ≡ Some fd)

-- What is copied is a proc(5): what the program hands in, or the library's own.
pub record CopiesIt (w : Wish) (s : Seen) (dir : ℕ) (path : List ℕ) : Type 0 where
  pub same : path ≡ SAME
  pub hands : w.finds ≡ false
  pub proc : s.proc ≡ Some dir
  pub whose : (w.handed ≡ Some dir) ⊎ IsOwn s dir

-- What is kept is open, and a proc(5); it was asked which file it is; and the program's place was claimed.
pub record KeepsIt (s : Seen) (fd : ℕ) (file : File) (handed_in : Bool) : Type 0 where
  pub held : is_in fd s.held ≡ true
  pub claimed : s.claimed ≡ true
  pub proc : s.proc ≡ Some fd
  pub told : s.told ≡ Some (record { fd = fd; file = file })
  pub hands : handed_in ≡ s.hands

abbrev pub IsAsked : Floor → Type 0
IsAsked (asked known) = Unit {0}
IsAsked _ = ⊥

-- What is asked about, copied or closed is open then. No other system calls are made.
abbrev pub May : Wish → Seen → SystemCall → Type 0
May w s (look_up dir path flags resolve) = Unit {0}
May w s (knows known) = (known ≡ true) × (s.floor ≡ shown)
May w s (stats fd) = IsAsked s.floor ⊎ ((fd ≡ w.kept.fd) ⊎ (is_in fd s.held ≡ true))
May w s (stats_file_system fd) = (w.handed ≡ Some fd) ⊎ (is_in fd s.held ≡ true)
May w s (opens dir path flags mode) = OpensProc w s dir path ⊎ CopiesIt w s dir path
May w s (copies_above fd) = is_in fd s.held ≡ true
May w s (closes fd) = is_in fd s.held ≡ true
May w s (claims handed_in) = handed_in ≡ not w.finds
May w s (keeps fd device inode mount handed_in) =
    KeepsIt s fd (record { device = device; inode = inode; mount = mount }) handed_in
May w s releases = s.claimed ≡ true
May w s (reads_thread fd) = is_in fd s.held ≡ true
May w s new_proc = w.finds ≡ false
-- a new one has only what is of processes
May w s (configures fd restricts) = (is_in fd s.held ≡ true) × ((restricts ≡ true) ⊎ (s.restricted ≡ true))
May w s (mounts fd) = is_in fd s.held ≡ true
-- a new one was tried before, and could not be made, or was none
May w s copies_proc = s.why ≢ 0
May w s _ = ⊥

abbrev pub watch : Wish → Watch Seen
watch w = record { by = λ s x. seen_by w s x.asked x.answer; May = May w }
