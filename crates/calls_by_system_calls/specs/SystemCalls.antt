-- What a system call and its answer say of the lines of the call that made it: a table with a row for each system call
-- of a call whose path the kernel walks (kernel_calls), each with its manual page. Of what is in no row, and of a
-- look-up that isn't made below the call's root, nothing is supposed.
use Rattle.std.specs.Prelude.{◌≡◌, ◌≢◌, ℕ, List, [], ◌∷◌, ◌++◌, Bool, true, false, not, if◌then◌else◌, bit_and, Some}
use Rattle.path_text.specs.declared.errno.Errno.TheVariants.{NoMemory}
use Rattle.tree_model.specs.declared.answer.Answer.TheVariants as answers
use Rattle.tree_model.specs.declared.step.Mode.{Mode}
use Rattle.tree_model.specs.declared.step.Mode.TheVariants as modes
use Rattle.tree_model.specs.declared.step.StepOf.TheVariants as steps
use Rattle.tree_model.specs.StepWith.{StepWith}
use Rattle.path_text.specs.Print.{names_read}
use Rattle.system_calls.specs.Errors.{ENOENT}
use Rattle.system_calls.specs.OpenFlags.{O_PATH}
use Rattle.system_calls.specs.declared.opening.MachineFlags.{MachineFlags}
use Rattle.dialogue.specs.Dialogue.{Exchange, SystemCall, closes, knows, look_up, makes_directory, makes_link, makes_node, opens, removes, renames, stats}
use Rattle.dialogue.specs.declared.calls.Answer.{Answer}
use Rattle.linux_steps.specs.Changes.{change_ended}
use Rattle.linux_steps.specs.declared.ended.Ended.{Ended}
use Rattle.linux_steps.specs.declared.ended.Ended.TheVariants as ended
use Rattle.step_resolver.specs.Order.{Handle, Line, answered, not_made}
use Rattle.root_ops.specs.declared.aim.Change.{Change}
use Rattle.root_ops.specs.declared.aim.Change.TheVariants as changes
use Rattle.root_ops.specs.declared.below.Below.{Below}
use Rattle.root_ops.specs.declared.op.Op.{Op}
use Rattle.root_ops.specs.declared.op.Op.TheVariants.{Resolve, ResolveNoFollow}
use Rattle.root_ops.specs.declared.reply.Reply.{Reply}
use Rattle.root_ops.specs.declared.reply.Reply.TheVariants as replies
use Rattle.root_ops.specs.Order.{change_step, opened, starts, ends, LeadsTo}
use Rattle.kernel_calls.specs.Flags.{has}
use Rattle.kernel_walks.specs.AtOnce.{Passed, lines_missing, misses_at_once, names_to}
use Rattle.kernel_walks.specs.Behind.{asks_below}

-- The descriptor of the call's root; which handle of the history each other descriptor is, and by which other handle on
-- the root the call goes if its first entry is in the root itself; and the machine's flags of open(2).
pub record Descriptors : Type 0 where
  pub root : ℕ
  pub handle : ℕ → ℕ
  pub machine : MachineFlags

-- ---- openat2(2)

-- The path is walked below the root: `..` and links stay in it (RESOLVE_IN_ROOT, 16) or fail where they lead out
-- (RESOLVE_BENEATH, 8); no link is followed, if the call says so (RESOLVE_NO_SYMLINKS, 4).
pub record IsBelow (below : Below) (d : Descriptors) (dir resolve : ℕ) : Type 0 where
  pub root : dir ≡ d.root
  pub in_root : has resolve 16 ≡ not below.flags.beneath
  pub beneath : has resolve 8 ≡ below.flags.beneath
  pub no_links : has resolve 4 ≡ below.flags.no_links

-- path_resolution(7): the kernel goes as a resolve of this path does. Some lines lead that up to the question where its
-- object stands; being told the names passed, it replies that the object was opened. The kernel says that the object
-- is below the root, and not at which names: the history has whatever names. The descriptor is a number that was free.
pub record WalksTo (below : Below) (d : Descriptors) (op : Op) (fd : ℕ) (lines : List Line) : Type 0 where
  pub before : List Line
  pub object : Handle
  pub told : List (List ℕ)
  pub names : List (List ℕ)
  pub others : List (List ℕ)
  pub leads : LeadsTo below (starts below true op) (before ++ asks_below below object told ∷ [])
      (ends (opened object names))
  pub all : lines ≡ before ++ asks_below below object others ∷ []
  pub free : fd ≢ d.root
  pub is : d.handle fd ≡ object.number

-- open(2), O_NOFOLLOW
abbrev pub resolves : Bool → List ℕ → Op
resolves no_follow path = if no_follow then ResolveNoFollow path else Resolve path

-- each name of a path of names alone was opened in the directory before it, up to one that was missing there
pub record Misses (below : Below) (place : List ℕ) (lines : List Line) : Type 0 where
  pub passed : List Passed
  pub name : List ℕ
  pub rest : List (List ℕ)
  pub names : names_read place ≡ Some (names_to passed name rest)
  pub all : lines ≡ lines_missing below.root.handle passed name

-- One that failed has no lines if another look-up comes next, which is of the same path. Behind the last one the call
-- fails: RESOLVE_NO_SYMLINKS (4), ENOENT.
pub record LookUpSays (below : Below) (d : Descriptors) (is_last : Bool) (dir : ℕ) (path : List ℕ) (how resolve : ℕ)
    (a : Answer) (lines : List Line) : Type 0 where
  pub opened : a.error ≡ 0 → IsBelow below d dir resolve
      → WalksTo below d (resolves (has how d.machine.nofollow) path) a.value lines
  pub failed : a.error ≢ 0 → is_last ≡ false → lines ≡ []
  pub missed : (place : List ℕ) → a.error ≡ ENOENT → is_last ≡ true → dir ≡ d.root → has resolve 4 ≡ true
      → misses_at_once below.flags.beneath path place ≡ true → Misses below place lines

-- ---- changes

-- A step that ends so. Where the model has no word for an error, the step counts as not made for want of memory.
abbrev pub line_of : StepWith ℕ → Ended → Line
line_of step ended.Done = answered step answers.Done
line_of step (ended.Refused error) = answered step (answers.Refused error)
line_of step end = not_made NoMemory

-- the reply, which is that step's answer
abbrev pub reply_of : Ended → Reply
reply_of ended.Done = replies.Done
reply_of (ended.Refused error) = replies.Fault error
reply_of end = replies.Fault NoMemory

abbrev pub change_line : Change → List ℕ → ℕ → ℕ → Line
change_line change name error h =
    line_of (change_step change h name) (change_ended (change_step change h name) false error)

abbrev pub close_line : ℕ → Line
close_line h = answered (steps.Close h) answers.Done

-- In the root itself a step goes by another handle on it, as that of a walk along no parts does (dup(2)). That one is
-- asked where it stands, and closed behind these lines.
pub record InRoot (below : Below) (inner : ℕ → List Line) (lines : List Line) : Type 0 where
  pub other : Handle
  pub others : List (List ℕ)
  pub all : lines ≡ answered (steps.Dup below.root.handle) (answers.Opened other.number other.node other.kind)
      ∷ asks_below below other others ∷ (inner other.number ++ close_line other.number ∷ [])

-- open(2): a file is made, or there is one by that name (O_CREAT, 64, and O_EXCL, 128); O_PATH would make none
abbrev pub IsNewFile : ℕ → Type 0
IsNewFile flags = (bit_and flags 192 ≡ 192) × (has flags O_PATH ≡ false)

-- RENAME_NOREPLACE, RENAME_EXCHANGE
abbrev pub rename_flags : Mode → ℕ
rename_flags modes.Plain = 0
rename_flags modes.NoReplace = 1
rename_flags modes.Exchange = 2

abbrev pub rename_line : List ℕ → List ℕ → Mode → ℕ → ℕ → ℕ → Line
rename_line name new mode error h k =
    let step = steps.Rename h name k new mode in line_of step (change_ended step false error)

-- a new entry in the root itself goes by a handle of its own, even where the old one is there too
pub record RenameSays (below : Below) (d : Descriptors) (to : ℕ) (line : ℕ → Line) (lines : List Line) : Type 0 where
  pub in_directory : to ≢ d.root → lines ≡ line (d.handle to) ∷ []
  pub in_root : to ≡ d.root → InRoot below (λ h. line h ∷ []) lines

-- ---- the table

-- of a system call of this call, which is its last look-up or not
abbrev pub Says : Below → Descriptors → Bool → SystemCall → Answer → List Line → Type 0
Says below d is_last (look_up dir path how resolve) a lines = LookUpSays below d is_last dir path how resolve a lines
-- mkdirat(2)
Says below d is_last (makes_directory dir name mode) a lines =
    lines ≡ change_line changes.MakeDir name a.error (d.handle dir) ∷ []
-- mknodat(2)
Says below d is_last (makes_node dir name mode device) a lines =
    lines ≡ change_line changes.MakeFile name a.error (d.handle dir) ∷ []
Says below d is_last (opens dir name flags mode) a lines =
    IsNewFile flags → lines ≡ change_line changes.MakeFile name a.error (d.handle dir) ∷ []
-- symlinkat(2)
Says below d is_last (makes_link dir name text) a lines =
    lines ≡ change_line (changes.MakeLink text) name a.error (d.handle dir) ∷ []
-- unlinkat(2), without AT_REMOVEDIR and with it
Says below d is_last (removes dir name directory) a lines =
    lines ≡ change_line (if directory then changes.RemoveDir else changes.RemoveFile) name a.error (d.handle dir) ∷ []
-- renameat2(2)
Says below d is_last (renames from name to new flags) a lines = (mode : Mode) → flags ≡ rename_flags mode
    → RenameSays below d to (rename_line name new mode a.error (d.handle from)) lines
-- close(2), whatever it gives
Says below d is_last (closes fd) a lines = lines ≡ close_line (d.handle fd) ∷ []
-- statx(2), of a kind alone; and no system call, but what the thread knows of the kernel
Says below d is_last (stats fd) a lines = lines ≡ []
Says below d is_last (knows known) a lines = lines ≡ []
Says below d is_last q a lines = Unit {0}

-- ---- one after another

abbrev pub is_look_up : SystemCall → Bool
is_look_up (look_up dir path how resolve) = true
is_look_up q = false

-- no look-up comes next
abbrev pub ends_looks : List Exchange → Bool
ends_looks [] = true
ends_looks (x ∷ xs) = not (is_look_up x.asked)

abbrev pub StandFor : Below → Descriptors → List Exchange → List Line → Type 0
StandFor below d [] lines = lines ≡ []
StandFor below d (x ∷ xs) lines = (own rest : List Line) × Says below d (ends_looks xs) x.asked x.answer own
    × StandFor below d xs rest × (lines ≡ own ++ rest)

-- what is closed behind the call's end
abbrev pub closed : Descriptors → List ℕ → List Line
closed d [] = []
closed d (fd ∷ fds) = close_line (d.handle fd) ∷ closed d fds
