-- What a turn tells of a whole call: the system call that its dialogue asks for, or how that ends.
use Rattle.std.specs.Prelude.{◌≡◌, ◌<◌, ℕ, ◌+◌, List, [], ◌∷◌, ◌==◌, Bool, true, false, not, ◌||◌, if◌then◌else◌, nat_lt, bit_or, drop, length, take, Some}
use Rattle.path_text.specs.Text.{is_empty}
use Rattle.path_text.specs.declared.path.TheConstants.{TEXT_MAX}
use Rattle.system_calls.specs.OpenFlags.{O_PATH}
use Rattle.dialogue.specs.Dialogue.{Dialogue, Ran, SystemCall, by_steps, came, due, ran}
use Rattle.dialogue.specs.declared.calls.Answer.{Answer}
use Rattle.find_proc.specs.declared.asks.Known.{Known}
use Rattle.kernel_calls.specs.Calls.{EndsNext, Ended, IsBare, ended}
use Rattle.kernel_calls.specs.Entry.{EntryAt, IsDivision, closed_by}
use Rattle.kernel_calls.specs.Flags.{bit, has}
use Rattle.kernel_calls.specs.Look.{may_walk}
use Rattle.kernel_calls.specs.Path.{At}
use Rattle.kernel_calls.specs.declared.look.Outcome.{Outcome}
use Rattle.kernel_calls.specs.declared.look.Outcome.TheVariants.{Value, Fails, FailsAt, Steps}
use Rattle.linux_call.specs.Due.{HasTexts, IsAskedBy}
use Rattle.linux_call.specs.Whole.{Besides, CallDialogue, IsByKernel, IsWalked, inner, is_change, is_open, is_whole, is_wrong, takes_slash, wanted_of}
use Rattle.linux_call.specs.declared.due.Due.{Due}
use Rattle.linux_call.specs.declared.kept.State.{State}
use Rattle.linux_call.specs.declared.request.Request.{Request}

-- ---- the call

-- It has no fault; nothing is given, gets another name, or is opened for use.
pub record IsPlain (r : Request) : Type 0 where
  pub whole : is_whole r.what ≡ true
  pub right : is_wrong r ≡ false
  pub walked : IsWalked (inner r).flags r.root
  pub bare : IsBare (wanted_of (inner r))

-- the reply of a change comes right behind it: mkdir 5, symlink 6, unlink 7, rmdir 8, rename 9, mknod 19
abbrev pub ends_behind : ℕ → Bool
ends_behind what =
    (what == 5) || ((what == 6) || ((what == 7) || ((what == 8) || ((what == 9) || (what == 19)))))

-- the first path, of which the request has the length
abbrev pub whole_at : Request → List ℕ → Bool → At
whole_at r first looked =
    record { root = r.root; flags = (inner r).flags; slashed = take (1 + r.length) first; looked = looked }

abbrev pub texts_beside : List ℕ → List ℕ → Besides
texts_beside second read = record { second = second; target = drop 1 second; read = read }

-- the dialogue of the request on these texts, a slash before each
abbrev pub IsWhole : Request → List ℕ → List ℕ → CallDialogue → Type 0
IsWhole r first second s =
    IsByKernel (inner r) r.known (whole_at r first false) (texts_beside second []) (ends_behind r.what) s

-- ---- what is kept between two turns

-- The kernel may walk the path that is looked up: the whole one (open), or that of the entry's directory.
pub record IsLooked (r : Request) (at : At) : Type 0 where
  pub whole : is_change r.what || (r.what == 9) ≡ false → may_walk at ≡ true
  pub entry : is_change r.what || (r.what == 9) ≡ true → (n : EntryAt) (path : List ℕ)
      → IsDivision at.slashed (takes_slash r.what) n → n.above ≡ Some path
      → may_walk (record at { slashed = path }) ≡ true

-- What the first answer opens is the reply.
unfoldable pub OpensNext : CallDialogue → Type 0
OpensNext s = (a : Answer) → a.error ≡ 0 → (k : Known) × (ran s (a ∷ []) ≡ came (ended k [] (Value a.value)) [])

-- So many answers stand before the one that is due.
pub record Stands (r : Request) (first : List ℕ) (s : CallDialogue) (st : State) (answers : List Answer)
    : Type 0 where
  pub looked : st.looked ≡ true → IsLooked (inner r) (whole_at r first false)
  pub opens : st.opens ≡ true → (st.count ≡ 0) × OpensNext s
  pub changes : st.changes ≡ true → EndsNext s (take st.count answers) (closed_by st.closes)

-- ---- what is told

abbrev pub is_by_steps : SystemCall → Bool
is_by_steps (by_steps one other) = true
is_by_steps _ = false

-- Single steps don't go on, nor is it asked what the kernel lacks.
abbrev pub is_told : Ran Ended → Bool
is_told (due q) = not (is_by_steps q)
is_told (came e left) = not (is_open e.outcome)

abbrev pub closes_in : Due → List ℕ
closes_in d = closed_by (record { first = d.first_closed; second = d.second_closed; count = d.closes })

-- the numbers of the end in calls.h: 32 with a value, 33 with an error and the step to blame
abbrev pub IsEnd : Outcome → Due → Type 0
IsEnd (Value value) d = (d.what ≡ 32) × (d.number ≡ value)
IsEnd (Fails error step) d = (d.what ≡ 33) × (d.number ≡ error) × (d.step ≡ step)
IsEnd (FailsAt error step) d = (d.what ≡ 33) × (d.number ≡ error) × (d.step ≡ step)
IsEnd Steps d = Unit {0}

abbrev pub Tells : Request → List ℕ → CallDialogue → Ran Ended → State → List Answer → Due → List ℕ → Type 0
Tells r first s (due q) st answers d room =
    IsAskedBy q d × HasTexts q room × Stands r first s st answers
Tells r first s (came e left) st answers d room = IsEnd e.outcome d × (closes_in d ≡ e.closes)

-- ---- between two turns

-- No single step is under way; and before the first turn nothing was asked.
pub record IsKept (st : State) : Type 0 where
  pub alone : st.by_steps ≡ false
  pub fresh : st.begun ≡ false
      → (st.count ≡ 0) × (st.looked ≡ false) × (st.opens ≡ false) × (st.changes ≡ false)

-- so many answers stand, with the one that is due
abbrev pub next_count : State → ℕ
next_count st = if st.begun then st.count + 1 else st.count

abbrev pub told : State → List Answer → List Answer
told st answers = take (next_count st) answers

-- There is room for one answer more.
abbrev pub HasRoom : State → List Answer → Type 0
HasRoom st answers = (next_count st < length answers) × (next_count st < 4294967296)

-- What a turn tells; of a system call also what is kept for the next turn, and where its answer is to lie.
abbrev pub Turned : Request → List ℕ → CallDialogue → Ran Ended → ℕ → State → List Answer → Due → List ℕ → Type 0
Turned r first s (due q) count st answers d room =
    ((one : Due) × IsAskedBy q one × (d ≡ record one { at = count })) × HasTexts q room
    × Stands r first s st answers × IsKept st × (st.begun ≡ true) × (st.count ≡ count)
Turned r first s (came e left) count st answers d room = IsEnd e.outcome d × (closes_in d ≡ e.closes)

-- ---- the first turn

-- the dialogue's first question is due
abbrev pub IsAsked : {E : Type 0} → Dialogue E → Due → List ℕ → Type 0
IsAsked s d room = (q : SystemCall) × (ran s [] ≡ due q) × IsAskedBy q d × HasTexts q room

-- open(2): the flags by which what a path means is looked up; 4 is INROOT_NOFOLLOW
abbrev pub path_flags : Request → ℕ
path_flags r =
    bit_or (bit_or O_PATH (bit (has r.flags 4) r.known.machine.nofollow)) (bit r.directory r.known.machine.directory)

-- symlink(2): some bytes, and not too many
abbrev pub IsLinkText : List ℕ → Type 0
IsLinkText text = (is_empty text ≡ false) × (nat_lt TEXT_MAX (length text) ≡ false)

-- The first turn asks for the path's look-up.
pub record IsFirst (r : Request) (first : List ℕ) (s : CallDialogue) (d : Due) (room : List ℕ) : Type 0 where
  pub asked : IsAsked s d room
  pub looked : IsLooked (inner r) (whole_at r first false)
  pub opens : r.what ≡ 1 → r.asks_kind ≡ false → OpensNext s
