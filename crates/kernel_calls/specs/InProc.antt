-- What is done to an object by its link in /proc.
use Rattle.std.specs.Prelude.{ℕ, List, ◌==◌, Bool, true, false, not, ◌&&◌, ◌||◌, if◌then◌else◌, Result, Ok, Err}
use Rattle.system_calls.specs.Errors.{EACCES, EBADF, ENOENT, ENOSYS, ENOTDIR, EPERM}
use Rattle.system_calls.specs.Objects.{is_same_object}
use Rattle.system_calls.specs.declared.objects.Object.{Object}
use Rattle.dialogue.specs.Dialogue.{Dialogue, SystemCall, and_then, asks_open, attribute, attribute_at, calling, changes_mode, closes, ends, links, no_attribute, opens_object, reads_object_link, stats, stats_name}
use Rattle.dialogue.specs.declared.calls.Answer.{Answer}
use Rattle.find_proc.specs.Asks.{AT_FDCWD}
use Rattle.find_proc.specs.Find.{AT_PROC, Found, find, is_lost}
use Rattle.find_proc.specs.declared.asks.Known.{Known}
use Rattle.find_proc.specs.declared.asks.Proc.{Proc}
use Rattle.linux_steps.specs.Steps.{look_error}
use Rattle.kernel_calls.specs.Look.{Came, came_to}
use Rattle.kernel_calls.specs.declared.in_proc.Act as acts
use Rattle.kernel_calls.specs.declared.in_proc.Act.TheVariants as act_is

-- opened by these flags; given a mode; given a name in a directory; or the system call for extended attributes
pub data Doing : Type 0 where
  opening : ℕ → Doing
  changing_mode : ℕ → Doing
  linking : ℕ → List ℕ → Doing
  attributing : Doing

abbrev pub act_of : acts.Act → Doing
act_of (act_is.Open flags) = opening flags
act_of (act_is.Mode mode) = changing_mode mode
act_of (act_is.Link dir name) = linking dir name.now
act_of act_is.Attribute = attributing

abbrev pub question_of : Doing → ℕ → ℕ → SystemCall
question_of (opening flags) proc fd = opens_object proc fd flags
question_of (changing_mode mode) proc fd = changes_mode proc fd mode
question_of (linking dir name) proc fd = links proc fd dir name
question_of attributing proc fd = attribute_at proc fd

abbrev pub gave : Answer → Result ℕ ℕ
gave a = if a.error == 0 then Ok a.value else Err a.error

unfoldable pub gives : SystemCall → Dialogue (Result ℕ ℕ)
gives q = and_then (calling q) (λ a. ends (gave a))

-- ---- why it failed

-- there is no such process, as one of a thread that has ended (proc(5))
abbrev pub ESRCH : ℕ
ESRCH = 3

abbrev pub error_or_none : ℕ → Bool → ℕ
error_or_none error is_none = if is_none then ENOSYS else error

-- ENOSYS: there is no such /proc. The kernel says ENOENT of a directory that isn't there, too.
unfoldable pub proc_error : Known → ℕ → ℕ → ℕ → Dialogue ℕ
proc_error k proc fd error =
    if error == ENOENT
    then and_then (calling (reads_object_link proc fd)) (λ a. ends (error_or_none error (a.error == ENOENT)))
    else (if (error == EACCES) || ((error == EPERM) || (error == ESRCH))
    then and_then (is_lost k proc) (λ lost. ends (error_or_none error lost))
    else ends error)

-- ---- extended attributes before Linux 6.13

-- A filter may refuse by EPERM what it doesn't know. It does so then for what is no directory, too.
unfoldable pub is_unknown : ℕ → Dialogue Bool
is_unknown error =
    if not (error == EPERM) then ends (error == ENOSYS)
    else and_then (calling no_attribute) (λ a. ends (a.error == EPERM))

abbrev pub object_of : Answer → Object
object_of a = record { device = a.device; inode = a.inode; mount = a.mount }

abbrev pub top_told : ℕ → Answer → Dialogue Bool
top_told proc there =
    if not (look_error there == 0) then ends false
    else and_then (calling (stats proc))
    (λ here. ends ((look_error here == 0) && is_same_object (object_of there) (object_of here) false))

-- the directory at /proc is this one, by the same mount
unfoldable pub is_at_top : ℕ → Dialogue Bool
is_at_top proc = and_then (calling (stats_name AT_FDCWD AT_PROC)) (top_told proc)

abbrev pub at_top_told : ℕ → Bool → Dialogue (Result ℕ ℕ)
at_top_told fd is = if not is then ends (Err ENOSYS) else gives (attribute fd)

abbrev pub unknown_told : ℕ → ℕ → ℕ → Bool → Dialogue (Result ℕ ℕ)
unknown_told proc fd error is =
    if not is then ends (Err error) else and_then (is_at_top proc) (at_top_told fd)

unfoldable pub from_top : ℕ → ℕ → ℕ → Dialogue (Result ℕ ℕ)
from_top proc fd error = and_then (is_unknown error) (unknown_told proc fd error)

-- ---- by one /proc

abbrev pub failing : Doing → ℕ → ℕ → ℕ → Dialogue (Result ℕ ℕ)
failing attributing proc fd error = from_top proc fd error
failing act proc fd error = ends (Err error)

abbrev pub done_told : Doing → ℕ → ℕ → Result ℕ ℕ → Dialogue (Result ℕ ℕ)
done_told act proc fd (Ok value) = ends (Ok value)
done_told act proc fd (Err error) = failing act proc fd error

unfoldable pub done_in : ℕ → ℕ → Doing → Dialogue (Result ℕ ℕ)
done_in proc fd act = and_then (gives (question_of act proc fd)) (done_told act proc fd)

-- what came, and whether a failure may be this /proc's
abbrev pub Tried : Type 0
Tried = Result ℕ ℕ × Bool

abbrev pub why_told : Known → ℕ → ℕ → Dialogue Tried
why_told k proc why =
    if (why == ENOSYS) || (why == ENOTDIR) then and_then (is_lost k proc) (λ lost. ends (Err why, lost))
    else ends (Err why, false)

unfoldable pub failed_in : Known → ℕ → ℕ → ℕ → Dialogue Tried
failed_in k proc fd error = and_then (proc_error k proc fd error) (why_told k proc)

abbrev pub tried_told : Known → ℕ → ℕ → Result ℕ ℕ → Dialogue Tried
tried_told k proc fd (Ok value) = ends (Ok value, false)
tried_told k proc fd (Err error) = failed_in k proc fd error

unfoldable pub tried_in : Known → ℕ → ℕ → Doing → Dialogue Tried
tried_in k proc fd act = and_then (done_in proc fd act) (tried_told k proc fd)

-- ---- by a /proc that is found

-- a /proc of the call's own is closed
abbrev pub closing : Known → Proc → Tried → Dialogue (Came Tried)
closing k proc tried =
    if proc.own then and_then (calling (closes proc.fd)) (λ _. ends (came_to k tried)) else ends (came_to k tried)

abbrev pub with_proc : Known → ℕ → Doing → Result Proc ℕ → Dialogue (Came Tried)
with_proc k fd act (Ok proc) = and_then (tried_in k proc.fd fd act) (closing k proc)
with_proc k fd act (Err error) = ends (came_to k (Err error, false))

abbrev pub found_told : Known → ℕ → Doing → Found → Dialogue (Came Tried)
found_told k fd act found = with_proc (record k { kept = found.kept }) fd act found.proc

unfoldable pub act_by : Known → ℕ → Doing → Bool → Dialogue (Came Tried)
act_by k fd act surely = and_then (find k surely) (found_told k fd act)

abbrev pub again_told : Came Tried → Dialogue (Came (Result ℕ ℕ))
again_told came = ends (came_to came.known came.value.0)

abbrev pub lost_told : ℕ → Doing → Came Tried → Dialogue (Came (Result ℕ ℕ))
lost_told fd act came =
    if not came.value.1 then ends (came_to came.known came.value.0)
    else and_then (act_by came.known fd act true) again_told

-- once more, by the very file that is kept, if somebody closed the program's
unfoldable pub act_twice : Known → ℕ → Doing → Dialogue (Came (Result ℕ ℕ))
act_twice k fd act = and_then (act_by k fd act false) (lost_told fd act)

abbrev pub open_told : Known → Answer → Came (Result ℕ ℕ)
open_told k a = if not (a.error == 0) then came_to k (Err EBADF) else came_to k (Err ENOSYS)

abbrev pub twice_by : ℕ → Known → Result ℕ ℕ → Dialogue (Came (Result ℕ ℕ))
twice_by fd k (Ok value) = ends (came_to k (Ok value))
twice_by fd k (Err error) =
    if error == ENOSYS then and_then (calling (asks_open fd)) (λ a. ends (open_told k a))
    else ends (came_to k (Err error))

abbrev pub twice_told : ℕ → Came (Result ℕ ℕ) → Dialogue (Came (Result ℕ ℕ))
twice_told fd came = twice_by fd came.known came.value

-- EBADF: the object's descriptor is none; ENOSYS: there is no /proc
unfoldable pub by_proc : Known → ℕ → Doing → Dialogue (Came (Result ℕ ℕ))
by_proc k fd act = and_then (act_twice k fd act) (twice_told fd)
