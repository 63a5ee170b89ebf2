-- One look-up by the kernel, which walks a path as a whole.
use Rattle.std.specs.Prelude.{ℕ, List, ◌==◌, Bool, false, not, ◌&&◌, ◌||◌, if◌then◌else◌, bit_or, Result, Ok, Err}
use Rattle.std.specs.List.{list_all}
use Rattle.path_text.specs.declared.flags.Flags.{Flags}
use Rattle.path_text.specs.declared.name.TheConstants.{SLASH}
use Rattle.system_calls.specs.Errors.{EACCES, EINTR, ENOENT, ENOSYS, EPERM}
use Rattle.system_calls.specs.OpenFlags.{O_CLOEXEC, O_PATH}
use Rattle.dialogue.specs.Dialogue.{Dialogue, SystemCall, and_then, calling, closes, ends, knows, open_path}
use Rattle.dialogue.specs.Dialogue as dialogues
use Rattle.dialogue.specs.declared.calls.Answer.{Answer}
use Rattle.find_proc.specs.declared.asks.Known.{Known}
use Rattle.kernel_walks.specs.AtOnce.{misses_at_once}
use Rattle.kernel_walks.specs.Followed.{follows_at_once}
use Rattle.kernel_calls.specs.Flags.{BENEATH, NO_LINKS, OPEN, REOPEN, RESOLVE_NO_SYMLINKS, has, resolve_of}
use Rattle.kernel_calls.specs.Path.{At, place_in, text_in}
use Rattle.kernel_calls.specs.declared.look.Outcome.{Outcome}
use Rattle.kernel_calls.specs.declared.look.Outcome.TheVariants.{Fails, Steps}

-- what a part comes to, and what is known by then
pub record Came (E : Type 0) : Type 0 where
  pub value : E
  pub known : Known

abbrev pub came_to : {E : Type 0} → Known → E → Came E
came_to k value = record { value = value; known = k }

-- ---- openat2(2)

-- a filter may give it of a system call that the kernel has
abbrev pub is_filtered : ℕ → Bool
is_filtered error = (error == ENOSYS) || ((error == EPERM) || (error == EACCES))

abbrev pub unsure : Known → Known
unsure k = record k { has_floor = false }

-- the thread forgets that the kernel has openat2(2)
unfoldable pub forget : Known → ℕ → Dialogue Known
forget k error =
    if is_filtered error
    then (if k.has_floor then and_then (calling (knows false)) (λ _. ends (unsure k)) else ends (unsure k))
    else ends k

abbrev pub opened_told : Known → Answer → Dialogue (Came (Result ℕ ℕ))
opened_told k a =
    if a.error == 0 then ends (came_to k (Ok a.value))
    else and_then (forget k a.error) (λ now. ends (came_to now (Err a.error)))

unfoldable pub opened : Known → SystemCall → Dialogue (Came (Result ℕ ℕ))
opened k q = and_then (calling q) (opened_told k)

-- by flags of open(2), a mode, and bits of RESOLVE
abbrev pub openat2 : ℕ → List ℕ → ℕ → ℕ → ℕ → SystemCall
openat2 dir path how mode resolve =
    if has how O_PATH then dialogues.look_up dir path how resolve
    else open_path dir path (bit_or how O_CLOEXEC) mode resolve

-- ---- a path below a root

abbrev pub flags_of : At → Flags
flags_of at = record { beneath = has at.flags BENEATH; no_links = has at.flags NO_LINKS }

abbrev pub is_slash : ℕ → Bool
is_slash b = b == SLASH

-- For a path of slashes alone the kernel doesn't search the root (path_resolution(7)), as the steps do.
abbrev pub may_walk : At → Bool
may_walk at =
    not (list_all is_slash (text_in at.slashed)) && follows_at_once (flags_of at) (text_in at.slashed)

abbrev pub looks_up : At → ℕ → ℕ → ℕ → SystemCall
looks_up at how mode resolve = openat2 at.root (text_in at.slashed) how mode resolve

-- what it opens; or an error, 0 where the kernel may not walk the path
unfoldable pub look_up : Known → At → ℕ → ℕ → Dialogue (Came (Result ℕ ℕ))
look_up k at how mode =
    if not at.looked && not (may_walk at) then ends (came_to k (Err 0))
    else opened k (looks_up at how mode (resolve_of at.flags))

-- ---- or why not

abbrev pub missing_by : Known → Result ℕ ℕ → Dialogue (Came Bool)
missing_by k (Ok fd) = and_then (calling (closes fd)) (λ _. ends (came_to k false))
missing_by k (Err error) = ends (came_to k (error == ENOENT))

abbrev pub missing_told : Came (Result ℕ ℕ) → Dialogue (Came Bool)
missing_told came = missing_by came.known came.value

-- one of the path's names is missing, and it has no other parts
unfoldable pub is_missing : Known → At → Dialogue (Came Bool)
is_missing k at =
    if not (misses_at_once (has at.flags BENEATH) (text_in at.slashed) (place_in at.slashed))
    then ends (came_to k false)
    else and_then (opened k (looks_up at O_PATH 0 (bit_or (resolve_of at.flags) RESOLVE_NO_SYMLINKS))) missing_told

abbrev pub is_missing_told : Came Bool → Dialogue (Came (Result ℕ Outcome))
is_missing_told came = ends (came_to came.known (Err (if came.value then Fails ENOENT OPEN else Steps)))

abbrev pub walk_failed : At → Known → ℕ → Dialogue (Came (Result ℕ Outcome))
walk_failed at k error =
    if error == EINTR then ends (came_to k (Err (Fails EINTR REOPEN)))
    else (if error == ENOENT then and_then (is_missing k at) is_missing_told
    else ends (came_to k (Err Steps)))

abbrev pub walk_by : At → Known → Result ℕ ℕ → Dialogue (Came (Result ℕ Outcome))
walk_by at k (Ok fd) = ends (came_to k (Ok fd))
walk_by at k (Err error) = walk_failed at k error

abbrev pub walk_told : At → Came (Result ℕ ℕ) → Dialogue (Came (Result ℕ Outcome))
walk_told at came = walk_by at came.known came.value

-- what the path means is opened; a signal (EINTR) ends an opening for use
unfoldable pub walk : Known → At → ℕ → ℕ → Dialogue (Came (Result ℕ Outcome))
walk k at how mode = and_then (look_up k at how mode) (walk_told at)
