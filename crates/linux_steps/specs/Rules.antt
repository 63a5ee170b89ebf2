-- Rules over the system calls of each step, whatever these give.
use Rattle.std.specs.Prelude.{◌≡◌, ℕ, List, ◌==◌, Bool, true, false, not, ◌&&◌, ◌||◌, if◌then◌else◌, Option, Some, None}
use Rattle.path_text.specs.declared.errno.Errno.{Errno}
use Rattle.path_text.specs.declared.errno.Errno.TheVariants.{NotFound, Invalid}
use Rattle.system_calls.specs.Errors.{ENOENT, ENOTDIR}
use Rattle.dialogue.specs.Dialogue.{SystemCall, closes, open_above, open_name, open_same, reads_entries, reads_link, stats, stats_file_system}
use Rattle.dialogue.specs.Holds.{EachHolds, Watch}
use Rattle.dialogue.specs.declared.calls.Answer.{Answer}
use Rattle.linux_steps.specs.Steps.{Entry, dup_step, has_followed, has_magic, is_ordinary, open_step, parent_step, read_link_step, look_error, there}
use Rattle.linux_steps.specs.declared.ended.Ended.{Ended}
use Rattle.linux_steps.specs.declared.ended.Ended.TheVariants.{Opened, Text, Done, Refused, Unmade}
use Rattle.linux_steps.specs.declared.ended.There.{There}
use Rattle.linux_steps.specs.declared.ended.There.TheVariants.{Yes}

-- what the answers have said so far
pub record Seen : Type 0 where
  -- statfs(2), mount(8): a mount has links followed
  pub followed : Bool
  -- statfs(2), proc(5): a file system has no magic link; openat2(2), RESOLVE_NO_MAGICLINKS: the kernel, which may
  -- follow none, has looked where the link leads
  pub ordinary : Bool
  -- an error is passed over
  pub failed : Bool

abbrev pub at_first : Seen
at_first = record { followed = false; ordinary = false; failed = false }

-- What isn't the step's error: ENOTDIR of a name that is opened as what it is then; an answer that a link is no magic
-- one; and a file system, or a directory of one that keeps links, that can't be asked.
abbrev pub is_no_error : SystemCall → Answer → Bool
is_no_error (open_name dir name how) a =
    (a.error == 0) || (if how.no_follow then how.directory && (a.error == ENOTDIR) else is_ordinary a.error)
is_no_error (open_same dir how) a = (a.error == 0) || (not how.path && not (a.error == ENOENT))
is_no_error (open_above dir how) a = a.error == 0
is_no_error (stats fd) a = look_error a == 0
is_no_error (reads_entries fd) a = not (a.error == ENOENT)
is_no_error (reads_link fd) a = a.error == 0
is_no_error q a = true

abbrev pub says_followed : SystemCall → Answer → Bool
says_followed (stats_file_system fd) a = (a.error == 0) && has_followed a.flags
says_followed q a = false

abbrev pub says_ordinary : SystemCall → Answer → Bool
says_ordinary (stats_file_system fd) a = (a.error == 0) && not (has_magic a.file_system)
says_ordinary (open_name dir name how) a = not how.no_follow && ((a.error == 0) || is_ordinary a.error)
says_ordinary q a = false

abbrev pub seen_by : Seen → SystemCall → Answer → Seen
seen_by s q a = record {
  followed = s.followed || says_followed q a;
  ordinary = s.ordinary || says_ordinary q a;
  failed = s.failed || not (is_no_error q a);
}

-- A step looks and opens. What is opened of the tree stays on the mount of where it is opened, if NO_XDEV says so
-- (openat2(2), RESOLVE_NO_XDEV). A link's text is read by leave alone.
abbrev pub May : Bool → Seen → SystemCall → Type 0
May no_xdev s (open_name dir name how) = how.no_follow ≡ true → how.no_xdev ≡ no_xdev
May no_xdev s (open_same dir how) = how.path ≡ true → how.no_xdev ≡ no_xdev
May no_xdev s (open_above dir how) = how.no_xdev ≡ no_xdev
May no_xdev s (stats fd) = Unit {0}
May no_xdev s (stats_file_system fd) = Unit {0}
May no_xdev s (reads_entries fd) = Unit {0}
May no_xdev s (reads_link fd) = (s.followed ≡ true) × (s.ordinary ≡ true)
May no_xdev s (closes fd) = Unit {0}
May no_xdev s q = ⊥

abbrev pub watch : Bool → Watch Seen
watch no_xdev = record { by = λ s x. seen_by s x.asked x.answer; May = May no_xdev }

-- Where it is made, no error was passed over. It is refused by its own error alone.
abbrev pub Ends : Option Errno → Seen → Ended → Type 0
Ends own s (Opened fd kind) = s.failed ≡ false
Ends own s (Text length) = s.failed ≡ false
Ends own s (Refused error) = own ≡ Some error
Ends own s (Unmade error) = Unit {0}
Ends own s Done = ⊥

-- it is said to be there only if no error was passed over
abbrev pub ThereEnds : Seen → There → Type 0
ThereEnds s Yes = s.failed ≡ false
ThereEnds s t = Unit {0}

pub record StepsKeepRules : Type 0 where
  pub opens : (dir : ℕ) (name : List ℕ) (no_xdev : Bool)
      → EachHolds (watch no_xdev) 4 at_first (open_step dir name no_xdev) (Ends (Some NotFound))
  pub dups : (dir : ℕ) (no_xdev : Bool) → EachHolds (watch no_xdev) 1 at_first (dup_step dir no_xdev) (Ends None)
  pub parents : (dir : ℕ) (no_xdev : Bool)
      → EachHolds (watch no_xdev) 7 at_first (parent_step dir no_xdev) (Ends (Some NotFound))
  pub links : (fd : ℕ) (is_link : Bool) (entry : Option Entry) (no_xdev : Bool)
      → EachHolds (watch no_xdev) 5 at_first (read_link_step fd is_link entry)
      (Ends (if is_link then None else Some Invalid))
  pub theres : (dir : ℕ) (no_xdev : Bool) → EachHolds (watch no_xdev) 5 at_first (there dir) ThereEnds
