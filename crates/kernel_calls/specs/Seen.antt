-- What the exchanges of a call on an entry come to, except signals: what is open, and by which system call; whether a
-- look-up has failed; and the change.
use Rattle.std.specs.Prelude.{◌≡◌, ◌≢◌, ◌⊎◌, ℕ, ◌+◌, List, [], ◌∷◌, ◌==◌, Bool, true, false, if◌then◌else◌, bit_and, Option, Some, None}
use Rattle.system_calls.specs.Errors.{ENOENT}
use Rattle.dialogue.specs.Dialogue.{SystemCall, O_PATH, asks_open, claims, closes, copies_above, keeps, knows, links, look_up, makes_directory, makes_link, makes_node, opens, reads_link, reads_object_link, removes, renames, stats, stats_file_system}
use Rattle.dialogue.specs.Holds.{Watch, is_in}
use Rattle.dialogue.specs.declared.calls.Answer.{Answer}
use Rattle.find_proc.specs.Find.{AT_PROC}
use Rattle.find_proc.specs.declared.asks.Kept.{Kept}
use Rattle.kernel_calls.specs.Entry.{EntryAt}
use Rattle.kernel_calls.specs.Path.{At, text_in}
use Rattle.kernel_calls.specs.declared.change.Wanted.{Wanted}

-- ---- what is wanted

-- an entry: the root, the flags of the call, the path of the entry's directory, and the entry's name
pub record Place : Type 0 where
  pub at : At
  pub entry : EntryAt

pub record Wish : Type 0 where
  -- the flags of open(2) by which a path is looked up
  pub look : ℕ
  pub place : Place
  -- which change it is, by the step's number in inroot.h, and how it is made
  pub step : ℕ
  pub how : Wanted
  -- the text of a link
  pub text : List ℕ
  -- the other entry of a rename
  pub new : Option Place
  -- the /proc that the program keeps
  pub kept : Kept

-- ---- what is seen

-- a descriptor, and the system call by which it was opened
pub record Held : Type 0 where
  pub fd : ℕ
  pub by : SystemCall

pub record Seen : Type 0 where
  -- what was opened, and not closed
  pub held : List Held
  -- the last error of a look-up; 0 if none has failed
  pub why : ℕ
  -- what the change gave, if one was made
  pub change : Option Answer
  -- the /proc that the call found for the program
  pub program : Option ℕ

abbrev pub at_first : Seen
at_first = record { held = []; why = 0; change = None; program = None }

abbrev pub fds : List Held → List ℕ
fds [] = []
fds (h ∷ hs) = h.fd ∷ fds hs

-- it is among these
abbrev pub IsOpen : Held → List Held → Type 0
IsOpen h [] = ⊥
IsOpen h (x ∷ xs) = (x ≡ h) ⊎ IsOpen h xs

-- ---- answers

abbrev pub shut : ℕ → List Held → List Held
shut fd [] = []
shut fd (h ∷ hs) = if h.fd == fd then hs else h ∷ shut fd hs

abbrev pub gets : Seen → SystemCall → ℕ → Seen
gets s q fd = record s { held = record { fd = fd; by = q } ∷ s.held }

abbrev pub opened_after : Seen → SystemCall → Answer → Seen
opened_after s q a = if a.error == 0 then gets s q a.value else record s { why = a.error }

abbrev pub changed : Seen → Answer → Seen
changed s a = record s { change = Some a }

abbrev pub made_after : Seen → SystemCall → Answer → Seen
made_after s q a = if a.error == 0 then changed (gets s q a.value) a else changed s a

-- open(2): the first makes a file (O_CREAT), and is the change, but of a call that gives an object another name; one
-- behind a change opens what was made
abbrev pub opens_after : Option Answer → Bool → Seen → SystemCall → Answer → Seen
opens_after (Some made) linked s q a = opened_after s q a
opens_after None true s q a = opened_after s q a
opens_after None false s q a = made_after s q a

-- openat2(2) with RESOLVE_NO_MAGICLINKS alone asks whether the kernel has it, in no directory (EBADF): it opens nothing
abbrev pub NO_MAGICLINKS : ℕ
NO_MAGICLINKS = 2

abbrev pub seen_by : Wish → Seen → SystemCall → Answer → Seen
seen_by w s (look_up dir path flags resolve) a =
    if resolve == NO_MAGICLINKS then s else opened_after s (look_up dir path flags resolve) a
seen_by w s (opens dir path flags mode) a = opens_after s.change w.how.linked s (opens dir path flags mode) a
seen_by w s (closes fd) a = record s { held = shut fd s.held }
seen_by w s (makes_directory dir name mode) a = changed s a
seen_by w s (makes_node dir name mode device) a = changed s a
seen_by w s (makes_link dir name text) a = changed s a
seen_by w s (removes dir name directory) a = changed s a
seen_by w s (renames from name to new flags) a = changed s a
seen_by w s (copies_above fd) a = opened_after s (copies_above fd) a
seen_by w s (keeps fd device inode mount handed_in) a = record s { held = shut fd s.held; program = Some fd }
seen_by w s (links proc fd dir name) a = changed s a
seen_by w s _ a = s

-- ---- where each system call may come

-- openat2(2): no magic link is followed (2); `..` and links stay below the root (16, RESOLVE_IN_ROOT), or fail where
-- they lead out (8, RESOLVE_BENEATH); no link (4), and no mount (1), if the flags of inroot.h say so
abbrev pub below_bits : ℕ → ℕ
below_bits flags =
    2 + (if bit_and flags 1 == 0 then 16 else 8) + (if bit_and flags 2 == 0 then 0 else 4)
    + (if bit_and flags 128 == 0 then 0 else 1)

-- the look-up of a path from the root (path_resolution(7)), by flags of open(2)
abbrev pub looks : ℕ → At → List ℕ → SystemCall
looks flags at path = look_up at.root (text_in path) flags (below_bits at.flags)

-- it looks up just the path before the entry's name
abbrev pub IsLookUp : ℕ → At → Option (List ℕ) → SystemCall → Type 0
IsLookUp flags at None q = ⊥
IsLookUp flags at (Some path) q = q ≡ looks flags at path

abbrev pub IsNewLookUp : ℕ → Option Place → SystemCall → Type 0
IsNewLookUp flags None q = ⊥
IsNewLookUp flags (Some new) q = IsLookUp flags new.at new.entry.above q

-- the root, if the path has nothing before the entry's name; else it is open, and was opened by just this look-up
abbrev pub IsDirectory : ℕ → List Held → At → Option (List ℕ) → ℕ → Type 0
IsDirectory flags held at None dir = dir ≡ at.root
IsDirectory flags held at (Some path) dir = IsOpen (record { fd = dir; by = looks flags at path }) held

pub record IsAt (flags : ℕ) (held : List Held) (p : Place) (dir : ℕ) (name : List ℕ) : Type 0 where
  pub there : IsDirectory flags held p.at p.entry.above dir
  pub named : name ≡ p.entry.name

-- The one change, by the entry's directory and name, if no object gets another name. No look-up has failed.
pub record Changes (w : Wish) (s : Seen) (step dir : ℕ) (name : List ℕ) : Type 0 where
  pub unlinked : w.how.linked ≡ false
  pub first : s.change ≡ None
  pub found : s.why ≡ 0
  pub kind : w.step ≡ step
  pub at : IsAt w.look s.held w.place dir name

abbrev pub IsAtNew : ℕ → List Held → Option Place → ℕ → List ℕ → Type 0
IsAtNew flags held None dir name = ⊥
IsAtNew flags held (Some new) dir name = IsAt flags held new dir name

-- What was made is opened by its name, if the call gives it.
pub record Gives (w : Wish) (s : Seen) (made : Answer) (dir : ℕ) (name : List ℕ) : Type 0 where
  pub gives : w.how.gives ≡ true
  pub done : made.error ≡ 0
  pub at : IsAt w.look s.held w.place dir name

-- before the change a directory is looked up, if none was in vain; or after ENOENT whether a name is missing, with no
-- link followed (4, RESOLVE_NO_SYMLINKS)
abbrev pub Finds : Wish → Seen → SystemCall → Type 0
Finds w s q =
    (s.why ≡ 0) × (IsLookUp w.look w.place.at w.place.entry.above q ⊎ IsNewLookUp w.look w.new q)

abbrev pub MayLook : Wish → Seen → Option Answer → ℕ → List ℕ → ℕ → ℕ → Type 0
MayLook w s None dir path how resolve =
    (resolve ≡ NO_MAGICLINKS) ⊎ (Finds w s (look_up dir path how resolve)
    ⊎ ((s.why ≡ ENOENT) × (how ≡ O_PATH) × (bit_and resolve 4 ≡ 4)))
MayLook w s (Some made) dir path how resolve =
    Gives w s made dir path ⊎ ((w.how.linked ≡ true) × (resolve ≡ NO_MAGICLINKS))

-- openat(2): the current directory, in which statx(2) is asked for numbers of mounts
abbrev pub HERE : ℕ
HERE = 4294967196

-- no object has got another name yet: linkat(2) wasn't made, or failed
abbrev pub IsUnmade : Option Answer → Type 0
IsUnmade None = Unit {0}
IsUnmade (Some made) = made.error ≢ 0

-- /proc is named (O_PATH), or its number copied
abbrev pub IsOfProc : SystemCall → Type 0
IsOfProc (opens dir path flags mode) = (dir ≡ HERE) × (path ≡ AT_PROC) × (bit_and flags O_PATH ≡ O_PATH)
IsOfProc (copies_above fd) = Unit {0}
IsOfProc _ = ⊥

abbrev pub OpensProc : Wish → Seen → SystemCall → Type 0
OpensProc w s q = (w.how.linked ≡ true) × IsUnmade s.change × IsOfProc q

-- it is open, and was opened so
pub record IsNewProc (held : List Held) (fd : ℕ) : Type 0 where
  pub by : SystemCall
  pub is : IsOfProc by
  pub open_now : IsOpen (record { fd = fd; by = by }) held

-- the program's: it had one, or this call has found one for it
abbrev pub IsProgram : Wish → Seen → ℕ → Type 0
IsProgram w s fd = ((w.kept.there ≡ true) × (fd ≡ w.kept.fd)) ⊎ (s.program ≡ Some fd)

abbrev pub IsProc : Wish → Seen → ℕ → Type 0
IsProc w s fd = IsProgram w s fd ⊎ IsNewProc s.held fd

-- The object gets its other name through its link in /proc (linkat(2), AT_SYMLINK_FOLLOW), in the entry's directory.
-- A second one comes only behind one that failed. No look-up has failed.
pub record Links (w : Wish) (s : Seen) (proc fd dir : ℕ) (name : List ℕ) : Type 0 where
  pub linked : w.how.linked ≡ true
  pub unmade : IsUnmade s.change
  pub found : s.why ≡ 0
  pub object : fd ≡ w.how.fd
  pub proc_is : IsProc w s proc
  pub at : IsAt w.look s.held w.place dir name

-- the caller's own flags, if the call opens the file; else O_CREAT, O_EXCL, O_NOCTTY and O_CLOEXEC at least: a file
-- that is there isn't taken for a new one
abbrev pub IsNewBy : Bool → ℕ → ℕ → Type 0
IsNewBy true how flags = flags ≡ how
IsNewBy false how flags = bit_and flags 524736 ≡ 524736

abbrev pub IsNew : Wanted → ℕ → Type 0
IsNew how flags = IsNewBy how.opens how.how flags

-- S_IFMT of inode(7) is 61440: the mode has the other bits of the caller's
abbrev pub MayOpen : Wish → Seen → Option Answer → ℕ → List ℕ → ℕ → ℕ → Type 0
MayOpen w s None dir name flags mode =
    (Changes w s 9 dir name × IsNew w.how flags × (mode ≡ bit_and w.how.mode 4294905855))
    ⊎ OpensProc w s (opens dir name flags mode)
MayOpen w s (Some made) dir name flags mode = Gives w s made dir name ⊎ OpensProc w s (opens dir name flags mode)

-- What is looked at, read or closed is open then. No other system calls are made.
abbrev pub May : Wish → Seen → SystemCall → Type 0
May w s (look_up dir path how resolve) = MayLook w s s.change dir path how resolve
May w s (opens dir name flags mode) = MayOpen w s s.change dir name flags mode
May w s (stats fd) =
    (fd ≡ HERE) ⊎ ((is_in fd (fds s.held) ≡ true)
    ⊎ ((w.how.linked ≡ true) × ((fd ≡ w.how.fd) ⊎ IsProgram w s fd)))
May w s (reads_link fd) = is_in fd (fds s.held) ≡ true
May w s (closes fd) = is_in fd (fds s.held) ≡ true
May w s (knows known) = Unit {0}
-- mkdirat(2), mknodat(2), symlinkat(2), unlinkat(2), renameat2(2)
May w s (makes_directory dir name mode) = Changes w s 8 dir name × (mode ≡ w.how.mode)
May w s (makes_node dir name mode device) = Changes w s 9 dir name × (mode ≡ w.how.mode) × (device ≡ w.how.device)
May w s (makes_link dir name text) = Changes w s 10 dir name × (text ≡ w.text)
May w s (removes dir name directory) = Changes w s (if directory then 12 else 11) dir name
May w s (renames from name to new flags) =
    Changes w s 13 from name × IsAtNew w.look s.held w.new to new × (flags ≡ w.how.how)
-- an object's other name: which /proc it is; and which object
May w s (stats_file_system fd) = (w.how.linked ≡ true) × (is_in fd (fds s.held) ≡ true)
May w s (copies_above fd) = (w.how.linked ≡ true) × IsNewProc s.held fd
May w s (claims handed_in) = (w.how.linked ≡ true) × (handed_in ≡ false)
May w s (keeps fd device inode mount handed_in) = (w.how.linked ≡ true) × IsNewProc s.held fd
May w s (links proc fd dir name) = Links w s proc fd dir name
May w s (reads_object_link proc fd) = (w.how.linked ≡ true) × (fd ≡ w.how.fd) × IsProc w s proc
May w s (asks_open fd) = (w.how.linked ≡ true) × (fd ≡ w.how.fd)
May w s _ = ⊥

abbrev pub watch : Wish → Watch Seen
watch w = record { by = λ s x. seen_by w s x.asked x.answer; May = May w }
