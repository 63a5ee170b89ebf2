-- The one system call of a change, and a descriptor of what it made.
use Rattle.std.specs.Prelude.{ℕ, List, ◌==◌, Bool, true, false, not, ◌&&◌, ◌||◌, if◌then◌else◌, bit_and, bit_or, Option, Some, None, Result, Ok, Err}
use Rattle.system_calls.specs.Objects.{S_IFDIR, S_IFLNK, S_IFREG, format}
use Rattle.system_calls.specs.OpenFlags.{O_CLOEXEC, O_PATH}
use Rattle.dialogue.specs.Dialogue.{Dialogue, SystemCall, and_then, ends, look_up, makes_directory, makes_link, makes_node, opens, removes, renames}
use Rattle.find_proc.specs.declared.asks.Known.{Known}
use Rattle.give_entry.specs.Giving as giving
use Rattle.give_entry.specs.declared.giving.Made.{Made}
use Rattle.give_entry.specs.declared.giving.Made.TheVariants.{Name, File, Entry}
use Rattle.kernel_calls.specs.InProc.{by_proc, gives, linking}
use Rattle.kernel_calls.specs.Flags.{GIVE, MAKE_DIR, MAKE_FILE, MAKE_LINK, NEW, NO_XDEV, REMOVE_DIR, REMOVE_FILE, RESOLVE_NO_XDEV, has}
use Rattle.kernel_calls.specs.Look.{Came, came_to, forget}
use Rattle.kernel_calls.specs.declared.change.Change.{Change}
use Rattle.kernel_calls.specs.declared.change.Wanted.{Wanted}
use Rattle.kernel_calls.specs.declared.look.Outcome.{Outcome}
use Rattle.kernel_calls.specs.declared.look.Outcome.TheVariants.{Value, FailsAt}

-- a step in a directory, on a name there; and a link's text, or the other directory and name of a rename
pub record Changing : Type 0 where
  pub step : ℕ
  pub dir : ℕ
  pub name : List ℕ
  pub other : ℕ
  pub text : List ℕ

abbrev pub changing_of : Change → Changing
changing_of c = record { step = c.step; dir = c.dir; name = c.name.now; other = c.other; text = c.text.now }

-- ---- it is made

-- A file that the call opens, or gives, is known by the descriptor by which it is made (open(2), O_CREAT and O_EXCL).
abbrev pub is_opened : Wanted → ℕ → Bool
is_opened w step =
    (step == MAKE_FILE) && (not w.linked && (w.opens || (w.gives && (format w.mode == S_IFREG))))

abbrev pub flags_of : Wanted → ℕ → ℕ
flags_of w nofollow = if w.opens then w.how else bit_or NEW nofollow

-- a mode's bits but those of the kind (S_IFMT of inode(7))
abbrev pub without_kind : ℕ → ℕ
without_kind mode = bit_and mode 4294905855

-- mkdirat(2), openat(2), mknodat(2), symlinkat(2), unlinkat(2), renameat2(2)
abbrev pub question_of : Wanted → Changing → ℕ → SystemCall
question_of w c nofollow =
    if c.step == MAKE_DIR then makes_directory c.dir c.name w.mode
    else (if is_opened w c.step then opens c.dir c.name (flags_of w nofollow) (without_kind w.mode)
    else (if c.step == MAKE_FILE then makes_node c.dir c.name w.mode w.device
    else (if c.step == MAKE_LINK then makes_link c.dir c.name c.text
    else (if c.step == REMOVE_FILE then removes c.dir c.name false
    else (if c.step == REMOVE_DIR then removes c.dir c.name true
    else renames c.dir c.name c.other c.text w.how)))))

abbrev pub is_made : ℕ → Bool
is_made step = (step == MAKE_FILE) || (step == MAKE_LINK)

-- An object gets another name through its link in /proc (linkat(2), AT_SYMLINK_FOLLOW).
unfoldable pub make : Known → Wanted → Changing → Dialogue (Came (Result ℕ ℕ))
make k w c =
    if w.linked && is_made c.step then by_proc k w.fd (linking c.dir c.name)
    else and_then (gives (question_of w c k.machine.nofollow)) (λ r. ends (came_to k r))

-- ---- and given

abbrev pub mode_of : Wanted → ℕ → ℕ
mode_of w step =
    if step == MAKE_DIR then S_IFDIR else (if step == MAKE_LINK then S_IFLNK else w.mode)

abbrev pub made_of : Wanted → ℕ → Option ℕ → Made
made_of w step (Some fd) = File fd
made_of w step None = if w.linked then Name w.fd else Entry (mode_of w step) w.device

-- Under INROOT_NO_XDEV what is mounted over the entry isn't it.
abbrev pub opening : Changing → Bool → ℕ → SystemCall
opening c stays nofollow =
    if stays then look_up c.dir c.name nofollow RESOLVE_NO_XDEV
    else opens c.dir c.name (bit_or (bit_or O_PATH O_CLOEXEC) nofollow) 0

abbrev pub not_given : Known → Bool → Result ℕ ℕ → Dialogue (Came (Result ℕ ℕ))
not_given k stays (Ok fd) = ends (came_to k (Ok fd))
not_given k stays (Err error) =
    if stays then and_then (forget k error) (λ now. ends (came_to now (Err error)))
    else ends (came_to k (Err error))

-- it is opened by its name, and looked at (`give` of give_entry)
unfoldable pub give : Known → Wanted → Changing → Option ℕ → List ℕ → Dialogue (Came (Result ℕ ℕ))
give k w c made read =
    and_then
    (giving.give (opening c (has w.flags NO_XDEV) k.machine.nofollow) (made_of w c.step made) c.text read)
    (not_given k (has w.flags NO_XDEV))

abbrev pub give_by : Result ℕ ℕ → Outcome
give_by (Ok fd) = Value fd
give_by (Err error) = FailsAt error GIVE

abbrev pub number_of : Option ℕ → ℕ
number_of (Some fd) = fd
number_of None = 0

unfoldable pub given : Known → Wanted → Changing → Option ℕ → List ℕ → Dialogue (Came Outcome)
given k w c made read =
    if not w.gives then ends (came_to k (Value (number_of made)))
    else and_then (give k w c made read) (λ came. ends (came_to came.known (give_by came.value)))

abbrev pub made_by : Wanted → ℕ → ℕ → Option ℕ
made_by w step value = if is_opened w step then Some value else None

abbrev pub make_by : Wanted → Changing → List ℕ → Known → Result ℕ ℕ → Dialogue (Came Outcome)
make_by w c read k (Ok value) = given k w c (made_by w c.step value) read
make_by w c read k (Err error) = ends (came_to k (FailsAt error c.step))

abbrev pub make_told : Wanted → Changing → List ℕ → Came (Result ℕ ℕ) → Dialogue (Came Outcome)
make_told w c read came = make_by w c read came.known came.value

-- it is made, and opened if the call gives that
unfoldable pub make_change : Known → Wanted → Changing → List ℕ → Dialogue (Came Outcome)
make_change k w c read = and_then (make k w c) (make_told w c read)
