-- How a call opens the entry that it has made, and sees that it is the one.
use Rattle.std.specs.Prelude.{ℕ, List, take, ◌==◌, Bool, false, not, ◌&&◌, if◌then◌else◌, Result, Ok, Err}
use Rattle.system_calls.specs.Errors.{EAGAIN, ENOENT, ENOSYS}
use Rattle.system_calls.specs.Objects.{format, is_same_object, S_IFLNK}
use Rattle.system_calls.specs.declared.objects.Object.{Object}
use Rattle.dialogue.specs.Dialogue.{Dialogue, SystemCall, and_then, calling, closes, ends, reads_link, stats}
use Rattle.dialogue.specs.declared.calls.Answer.{Answer}
use Rattle.give_entry.specs.Made.{is_of_kind, is_text}
use Rattle.give_entry.specs.declared.giving.Made.{Made}
use Rattle.give_entry.specs.declared.giving.Made.TheVariants.{Name, File, Entry}

-- statx(2): with the number of the mount
abbrev pub look_error : Answer → ℕ
look_error a = if (a.error == 0) && not a.has_mount then ENOSYS else a.error

abbrev pub object_of : Answer → Object
object_of a = record { device = a.device; inode = a.inode; mount = a.mount }

abbrev pub one_of : Bool → Result (Unit {0}) ℕ
one_of is = if is then Ok tt else Err EAGAIN

abbrev pub compared_by : Answer → Answer → Result (Unit {0}) ℕ
compared_by about a =
    if not (look_error a == 0) then Err (look_error a)
    else one_of (is_same_object (object_of about) (object_of a) false)

unfoldable pub compared : Answer → ℕ → Dialogue (Result (Unit {0}) ℕ)
compared about other = and_then (calling (stats other)) (λ a. ends (compared_by about a))

abbrev pub read_by : List ℕ → List ℕ → Answer → Result (Unit {0}) ℕ
read_by text read a = if not (a.error == 0) then Err a.error else one_of (is_text (take a.value read) text)

unfoldable pub read_back : ℕ → List ℕ → List ℕ → Dialogue (Result (Unit {0}) ℕ)
read_back fd text read = and_then (calling (reads_link fd)) (λ a. ends (read_by text read a))

-- it is of the kind that was made: what tells that it is the one
abbrev pub identified : ℕ → Made → List ℕ → List ℕ → Answer → Dialogue (Result (Unit {0}) ℕ)
identified fd (Name other) text read a = compared a other
identified fd (File other) text read a = compared a other
identified fd (Entry mode number) text read a =
    if format mode == S_IFLNK then read_back fd text read else ends (Ok tt)

abbrev pub looked_at : ℕ → Made → List ℕ → List ℕ → Answer → Dialogue (Result (Unit {0}) ℕ)
looked_at fd made text read a =
    if not (look_error a == 0) then ends (Err (look_error a))
    else (if not (is_of_kind made a.mode a.node) then ends (Err EAGAIN) else identified fd made text read a)

unfoldable pub seen : ℕ → Made → List ℕ → List ℕ → Dialogue (Result (Unit {0}) ℕ)
seen fd made text read = and_then (calling (stats fd)) (looked_at fd made text read)

abbrev pub seen_then : ℕ → Result (Unit {0}) ℕ → Dialogue (Result ℕ ℕ)
seen_then fd (Ok _) = ends (Ok fd)
seen_then fd (Err error) = and_then (calling (closes fd)) (λ _. ends (Err error))

-- openat(2): others have removed or moved the entry (ENOENT)
abbrev pub open_error : ℕ → ℕ
open_error error = if error == ENOENT then EAGAIN else error

abbrev pub opened_by : Made → List ℕ → List ℕ → Answer → Dialogue (Result ℕ ℕ)
opened_by made text read a =
    if not (a.error == 0) then ends (Err (open_error a.error))
    else and_then (seen a.value made text read) (seen_then a.value)

unfoldable pub opened : SystemCall → Made → List ℕ → List ℕ → Dialogue (Result ℕ ℕ)
opened opening made text read = and_then (calling opening) (opened_by made text read)

-- the descriptor by which the file was made is closed last
abbrev pub closing : Made → Result ℕ ℕ → Dialogue (Result ℕ ℕ)
closing (Name fd) r = ends r
closing (File fd) r = and_then (calling (closes fd)) (λ _. ends r)
closing (Entry mode number) r = ends r

unfoldable pub give : SystemCall → Made → List ℕ → List ℕ → Dialogue (Result ℕ ℕ)
give opening made text read = and_then (opened opening made text read) (closing made)
