-- What answers show of a /proc.
use Rattle.std.specs.Prelude.{ℕ, List, [], ◌∷◌, ◌==◌, Bool, true, false, not, ◌&&◌, ◌||◌, if◌then◌else◌, nat_lt, bit_and, bit_or, Result, Ok, Err}
use Rattle.system_calls.specs.Errors.{EBADF, EINVAL, EMFILE, ENFILE, ENOMEM, ENOSYS}
use Rattle.system_calls.specs.OpenFlags.{O_CLOEXEC, O_PATH}
use Rattle.dialogue.specs.Dialogue.{Dialogue, SystemCall, and_then, calling, closes, copies_above, ends, knows, look_up, stats, stats_file_system}
use Rattle.dialogue.specs.declared.calls.Answer.{Answer}
use Rattle.find_proc.specs.declared.asks.File.{File}
use Rattle.find_proc.specs.declared.asks.Known.{Known}

-- openat(2): in the place of a directory, the current one
abbrev pub AT_FDCWD : ℕ
AT_FDCWD = 4294967196

-- openat2(2): -1, which is no directory
abbrev pub NO_DIRECTORY : ℕ
NO_DIRECTORY = 4294967295

abbrev pub NO_MAGICLINKS : ℕ
NO_MAGICLINKS = 2

-- PROC_SUPER_MAGIC (statfs(2))
abbrev pub PROC : ℕ
PROC = 40864

-- ST_NOSYMFOLLOW (statfs(2))
abbrev pub NOSYMFOLLOW : ℕ
NOSYMFOLLOW = 8192

-- `.`
abbrev pub SAME : List ℕ
SAME = 46 ∷ []

abbrev pub is_short : ℕ → Bool
is_short error = (error == EMFILE) || ((error == ENFILE) || (error == ENOMEM))

-- ---- what the kernel has

-- statx(2): with the number of the mount
abbrev pub has_number : Answer → Bool
has_number a = (a.error == 0) && a.has_mount

abbrev pub number_told : Bool → Answer → Dialogue Bool
number_told is_known a =
    if has_number a && is_known then and_then (calling (knows true)) (λ _. ends (has_number a))
    else ends (has_number a)

-- openat2(2) in no directory
abbrev pub look_told : Answer → Dialogue Bool
look_told a =
    if not (a.error == EBADF) && not (is_short a.error) then ends false
    else and_then (calling (stats AT_FDCWD)) (number_told (a.error == EBADF))

unfoldable pub has_floor : Known → Dialogue Bool
has_floor k =
    if k.has_floor then ends true
    else and_then (calling (look_up NO_DIRECTORY SAME k.machine.directory NO_MAGICLINKS)) look_told

-- ---- what is open

-- statx(2)
abbrev pub file_of_answer : Answer → File
file_of_answer a = record { device = a.device; inode = a.inode; mount = a.mount }

abbrev pub file_told : Answer → Result File ℕ
file_told a =
    if not (a.error == 0) then Err a.error
    else (if not a.has_mount then Err ENOSYS else Ok (file_of_answer a))

unfoldable pub file_of : ℕ → Dialogue (Result File ℕ)
file_of fd = and_then (calling (stats fd)) (λ a. ends (file_told a))

-- fstatfs(2): of a proc(5), on a mount that has its links followed (mount(8), nosymfollow)
abbrev pub has_followed_proc : Answer → Bool
has_followed_proc a = (a.file_system == PROC) && not (bit_and a.flags NOSYMFOLLOW == NOSYMFOLLOW)

abbrev pub proc_told : Answer → Result Bool ℕ
proc_told a = if not (a.error == 0) then Err a.error else Ok (has_followed_proc a)

unfoldable pub is_proc : ℕ → Dialogue (Result Bool ℕ)
is_proc fd = and_then (calling (stats_file_system fd)) (λ a. ends (proc_told a))

-- ---- what is opened

-- F_DUPFD_CLOEXEC of fcntl(2): EINVAL where no number is left above those of the standard files
abbrev pub above_error : ℕ → ℕ
above_error error = if error == EINVAL then EMFILE else error

abbrev pub above_told : Answer → Result ℕ ℕ
above_told a = if not (a.error == 0) then Err (above_error a.error) else Ok a.value

abbrev pub opened_told : Answer → Dialogue (Result ℕ ℕ)
opened_told a =
    if not (a.error == 0) then ends (Err a.error)
    else (if nat_lt 2 a.value then ends (Ok a.value)
    else and_then (calling (copies_above a.value))
    (λ c. and_then (calling (closes a.value)) (λ _. ends (above_told c))))

-- A program that began without its standard files may give those numbers to others, whatever stands there.
unfoldable pub opened_above : SystemCall → Dialogue (Result ℕ ℕ)
opened_above q = and_then (calling q) opened_told

abbrev pub by_path : ℕ → ℕ
by_path directory = bit_or (bit_or O_PATH O_CLOEXEC) directory

-- it is closed, and there is none
unfoldable pub fails_closed : {E : Type 0} → ℕ → ℕ → Dialogue (Result E ℕ)
fails_closed fd error = and_then (calling (closes fd)) (λ _. ends (Err error))
