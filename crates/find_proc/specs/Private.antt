-- A proc(5) of the library's own, which is mounted nowhere.
use Rattle.std.specs.Prelude.{ℕ, ◌==◌, Bool, true, false, not, if◌then◌else◌, Result, Ok, Err}
use Rattle.system_calls.specs.Errors.{EBUSY, ENOSYS}
use Rattle.dialogue.specs.Dialogue.{Dialogue, SystemCall, and_then, calling, closes, configures, copies_proc, ends, mounts, new_proc, reads_thread}
use Rattle.dialogue.specs.declared.calls.Answer.{Answer}
use Rattle.find_proc.specs.Asks.{fails_closed}
use Rattle.find_proc.specs.HandIn.{hand_in, is_believed}
use Rattle.find_proc.specs.declared.asks.Known.{Known}

abbrev pub tried : Answer → Result ℕ ℕ
tried a = if a.error == 0 then Ok a.value else Err a.error

unfoldable pub opening : SystemCall → Dialogue (Result ℕ ℕ)
opening q = and_then (calling q) (λ a. ends (tried a))

-- ---- a new one: fsopen(2), fsconfig(2), fsmount(2)

abbrev pub created : ℕ → Answer → Dialogue (Result ℕ ℕ)
created context a = if a.error == 0 then opening (mounts context) else ends (Err a.error)

unfoldable pub mounted : ℕ → Dialogue (Result ℕ ℕ)
mounted context = and_then (calling (configures context false)) (created context)

abbrev pub closing_context : ℕ → Result ℕ ℕ → Dialogue (Result ℕ ℕ)
closing_context context r = and_then (calling (closes context)) (λ _. ends r)

abbrev pub made_by : Result ℕ ℕ → Dialogue (Result ℕ ℕ)
made_by (Ok context) =
    and_then (calling (configures context true)) (λ _. and_then (mounted context) (closing_context context))
made_by (Err error) = ends (Err error)

unfoldable pub made : Dialogue (Result ℕ ℕ)
made = and_then (opening new_proc) made_by

-- ---- what it is

abbrev pub thread_told : ℕ → Answer → Dialogue (Result ℕ ℕ)
thread_told fd a = if a.error == 0 then ends (Ok fd) else fails_closed fd ENOSYS

abbrev pub proc_believed : ℕ → Bool → Dialogue (Result ℕ ℕ)
proc_believed fd is =
    if not is then fails_closed fd ENOSYS else and_then (calling (reads_thread fd)) (thread_told fd)

unfoldable pub believed : Known → ℕ → Dialogue (Result ℕ ℕ)
believed k fd = and_then (is_believed k fd) (proc_believed fd)

-- ---- a new one; or a copy of the mount at /proc: open_tree(2)

abbrev pub copy_by : Known → ℕ → Result ℕ ℕ → Dialogue (Result ℕ ℕ)
copy_by k why (Ok fd) = believed k fd
copy_by k why (Err error) = ends (Err why)

abbrev pub or_copied : Known → Result ℕ ℕ → Dialogue (Result ℕ ℕ)
or_copied k (Ok fd) = ends (Ok fd)
or_copied k (Err why) = and_then (opening copies_proc) (copy_by k why)

abbrev pub believed_by : Known → Result ℕ ℕ → Dialogue (Result ℕ ℕ)
believed_by k (Ok fd) = believed k fd
believed_by k (Err error) = ends (Err error)

unfoldable pub new_believed : Known → Dialogue (Result ℕ ℕ)
new_believed k = and_then made (believed_by k)

unfoldable pub made_or_copied : Known → Dialogue (Result ℕ ℕ)
made_or_copied k = and_then (new_believed k) (or_copied k)

abbrev pub handing : Known → Result ℕ ℕ → Dialogue (Result (Unit {0}) ℕ)
handing k (Ok fd) = and_then (hand_in k fd) (λ r. and_then (calling (closes fd)) (λ _. ends r))
handing k (Err error) = ends (Err error)

unfoldable pub make_private : Known → Dialogue (Result (Unit {0}) ℕ)
make_private k = if k.kept.claimed then ends (Err EBUSY) else and_then (made_or_copied k) (handing k)
