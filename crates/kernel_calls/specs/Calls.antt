-- Calls on paths that the kernel walks: what is at the end; an entry there is made, removed or renamed.
use Rattle.std.specs.Prelude.{◌≡◌, ℕ, ◌+◌, ◌*◌, ◌^◌, List, [], ◌∷◌, ◌++◌, ◌==◌, Bool, true, false, not, ◌&&◌, ◌||◌, if◌then◌else◌, nat_lt, bit_or, length, Result, Ok, Err}
use Rattle.path_text.specs.Text.{is_empty}
use Rattle.path_text.specs.declared.path.TheConstants.{TEXT_MAX}
use Rattle.system_calls.specs.Objects.{kind_of}
use Rattle.system_calls.specs.OpenFlags.{O_PATH}
use Rattle.dialogue.specs.Dialogue.{Dialogue, and_then, calling, came as comes, closes, ends, ran, stats}
use Rattle.dialogue.specs.declared.calls.Answer.{Answer}
use Rattle.find_proc.specs.Asks.{has_floor}
use Rattle.find_proc.specs.declared.asks.Known.{Known}
use Rattle.linux_steps.specs.Steps.{look_error}
use Rattle.kernel_calls.specs.Change.{Changing, make_change}
use Rattle.kernel_calls.specs.Entry.{EntryAt, find_directory, leave, own_of}
use Rattle.kernel_calls.specs.Flags.{MAKE_LINK, RENAME, bit}
use Rattle.kernel_calls.specs.Look.{Came, came_to, walk}
use Rattle.kernel_calls.specs.Path.{At}
use Rattle.kernel_calls.specs.declared.change.Wanted.{Wanted}
use Rattle.kernel_calls.specs.declared.entry.Dir.{Dir}
use Rattle.kernel_calls.specs.declared.look.Outcome.{Outcome}
use Rattle.kernel_calls.specs.declared.look.Outcome.TheVariants.{Value, Steps}

-- ---- what is at the end

-- the kind, and below it the descriptor
abbrev pub kind_told : ℕ → Answer → Dialogue Outcome
kind_told fd a =
    if not (look_error a == 0) then and_then (calling (closes fd)) (λ _. ends Steps)
    else ends (Value (kind_of a.mode * 2 ^ 32 + fd))

unfoldable pub with_kind : ℕ → Dialogue Outcome
with_kind fd = and_then (calling (stats fd)) (kind_told fd)

abbrev pub resolve_by : Bool → Known → Result ℕ Outcome → Dialogue (Came Outcome)
resolve_by asks k (Ok fd) =
    if asks then and_then (with_kind fd) (λ outcome. ends (came_to k outcome)) else ends (came_to k (Value fd))
resolve_by asks k (Err why) = ends (came_to k why)

abbrev pub resolve_told : Bool → Came (Result ℕ Outcome) → Dialogue (Came Outcome)
resolve_told asks came = resolve_by asks came.known came.value

-- FOLLOWS: through a link at the end; DIRECTORY: nothing else is of use; ASKS: for the kind
unfoldable pub resolve : Known → At → Bool → Bool → Bool → Dialogue (Came Outcome)
resolve k at follows directory asks =
    and_then
    (walk k at (bit_or (bit_or O_PATH (bit (not follows) k.machine.nofollow)) (bit directory k.machine.directory)) 0)
    (resolve_told asks)

-- ---- an entry is made or removed

-- what the call comes to, which descriptors are closed behind its end, and what is known by then
pub record Ended : Type 0 where
  pub outcome : Outcome
  pub closes : List ℕ
  pub known : Known

abbrev pub ended : Known → List ℕ → Outcome → Ended
ended k fds outcome = record { outcome = outcome; closes = fds; known = k }

-- Nothing gets another name, nothing is opened for use or given.
abbrev pub IsBare : Wanted → Type 0
IsBare w = (w.linked ≡ false) × (w.opens ≡ false) × (w.gives ≡ false)

-- One more answer without an error ends the call with 0, and these descriptors are closed behind that.
unfoldable pub EndsNext : Dialogue Ended → List Answer → List ℕ → Type 0
EndsNext s answers fds =
    (a : Answer) → a.error ≡ 0 → (k : Known) × (ran s (answers ++ a ∷ []) ≡ comes (ended k fds (Value 0)) [])

-- symlink(2): the text is the first that is wrong; what is given must be looked at, which takes a kernel that can
unfoldable pub is_plain : Known → Bool → ℕ → List ℕ → Dialogue Bool
is_plain k gives step text =
    if (step == MAKE_LINK) && (is_empty text || nat_lt TEXT_MAX (length text)) then ends false
    else (if not gives then ends true else has_floor k)

abbrev pub behind_of : Bool → List ℕ → List ℕ
behind_of is_last fds = if is_last then fds else []

abbrev pub changing : ℕ → ℕ → List ℕ → List ℕ → Changing
changing step dir name text = record { step = step; dir = dir; name = name; other = 0; text = text }

abbrev pub change_told : Dir → Bool → Came Outcome → Dialogue Ended
change_told dir is_last came =
    and_then (leave dir is_last) (λ _. ends (ended came.known (behind_of is_last (own_of dir)) came.value))

abbrev pub change_in : EntryAt → Wanted → ℕ → List ℕ → List ℕ → Bool → Known → Result Dir Outcome → Dialogue Ended
change_in entry w step text read is_last k (Ok dir) =
    and_then (make_change k w (changing step dir.fd entry.name text) read) (change_told dir is_last)
change_in entry w step text read is_last k (Err why) = ends (ended k [] why)

abbrev pub change_at : EntryAt → Wanted → ℕ → List ℕ → List ℕ → Bool → Came (Result Dir Outcome) → Dialogue Ended
change_at entry w step text read is_last came = change_in entry w step text read is_last came.known came.value

abbrev pub plain_told : Known → At → EntryAt → Wanted → ℕ → List ℕ → List ℕ → Bool → Bool → Dialogue Ended
plain_told k at entry w step text read is_last is =
    if not is then ends (ended k [] Steps)
    else and_then (find_directory k at entry.above) (change_at entry w step text read is_last)

-- IS_LAST: the reply comes right behind the change, and the directory is closed behind that
unfoldable pub change_entry : Known → At → EntryAt → Wanted → ℕ → List ℕ → List ℕ → Bool → Dialogue Ended
change_entry k at entry w step text read is_last =
    and_then (is_plain k w.gives step text) (plain_told k at entry w step text read is_last)

-- ---- an entry is renamed

pub record Left : Type 0 where
  pub outcome : Outcome
  pub closes : List ℕ

abbrev pub left : List ℕ → Outcome → Left
left fds outcome = record { outcome = outcome; closes = fds }

-- single steps go on
abbrev pub is_steps : Outcome → Bool
is_steps Steps = true
is_steps _ = false

-- The new entry's directory isn't open, and the old one's is closed.
unfoldable pub not_renamed : Dir → Outcome → Bool → Dialogue Left
not_renamed from why is_last =
    and_then (leave from (is_last && not (is_steps why)))
    (λ _. ends (left (behind_of (is_last && not (is_steps why)) (own_of from)) why))

abbrev pub renaming : Dir → List ℕ → Dir → List ℕ → Changing
renaming from name to new = record { step = RENAME; dir = from.fd; name = name; other = to.fd; text = new }

abbrev pub rename_told : Dir → Dir → Bool → Came Outcome → Dialogue Ended
rename_told from to is_last came =
    and_then (leave to is_last)
    (λ _. and_then (leave from is_last)
    (λ _. ends (ended came.known (behind_of is_last (own_of to ++ own_of from)) came.value)))

unfoldable pub rename_in : Known → Wanted → Dir → List ℕ → Dir → List ℕ → Bool → Dialogue Ended
rename_in k w from name to new is_last =
    and_then (make_change k w (renaming from name to new) []) (rename_told from to is_last)

abbrev pub rename_to : Wanted → Dir → List ℕ → List ℕ → Bool → Known → Result Dir Outcome → Dialogue Ended
rename_to w from name new is_last k (Ok to) = rename_in k w from name to new is_last
rename_to w from name new is_last k (Err why) =
    and_then (not_renamed from why is_last) (λ l. ends (ended k l.closes l.outcome))

abbrev pub to_told : Wanted → Dir → List ℕ → List ℕ → Bool → Came (Result Dir Outcome) → Dialogue Ended
to_told w from name new is_last came = rename_to w from name new is_last came.known came.value

unfoldable pub rename_from : Known → Wanted → Dir → List ℕ → At → EntryAt → Bool → Dialogue Ended
rename_from k w from name other to is_last =
    and_then (find_directory k other to.above) (to_told w from name to.name is_last)

abbrev pub from_by : Wanted → List ℕ → At → EntryAt → Bool → Known → Result Dir Outcome → Dialogue Ended
from_by w name other to is_last k (Ok from) = rename_from k w from name other to is_last
from_by w name other to is_last k (Err why) = ends (ended k [] why)

abbrev pub from_told : Wanted → List ℕ → At → EntryAt → Bool → Came (Result Dir Outcome) → Dialogue Ended
from_told w name other to is_last came = from_by w name other to is_last came.known came.value

unfoldable pub rename : Known → At → EntryAt → At → EntryAt → Wanted → Bool → Dialogue Ended
rename k at from other to w is_last =
    and_then (find_directory k at from.above) (from_told w from.name other to is_last)
