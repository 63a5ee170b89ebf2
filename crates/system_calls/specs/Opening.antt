-- What a call opens and makes, by flags of open(2). As in openat2(2) a flag that isn't taken, or that another one
-- contradicts, is refused by EINVAL, where open(2) passes over some.
use Rattle.std.specs.Prelude.{ℕ, ◌+◌, ◌==◌, Bool, false, not, ◌&&◌, ◌||◌, if◌then◌else◌, nat_le, bit_and, bit_or}
use Rattle.system_calls.specs.Errors.{ENOTDIR, EISDIR, EINVAL}
use Rattle.system_calls.specs.declared.opening.MachineFlags.{MachineFlags}
use Rattle.system_calls.specs.declared.opening.Opening.{Opening}
use Rattle.system_calls.specs.OpenFlags.{O_WRONLY, O_RDWR, O_CREAT, O_EXCL, O_NOCTTY, O_TRUNC, O_APPEND, O_NONBLOCK, O_SYNC, O_NOATIME, O_CLOEXEC, O_PATH, o_tmpfile, has, are_among, access}

-- ---- which flags are taken

-- what each descriptor gets, whether it was asked for or not
abbrev pub ALWAYS : ℕ
ALWAYS = O_CLOEXEC + O_NOCTTY

-- for a use of what is there
abbrev pub use_flags : MachineFlags → ℕ
use_flags machine =
    bit_or (bit_or (bit_or (O_WRONLY + O_RDWR + O_TRUNC + O_APPEND + O_NONBLOCK + O_SYNC + O_NOATIME + ALWAYS)
    machine.directory) machine.direct) machine.largefile

-- for a descriptor that is of no use but to name the object
abbrev pub path_flags : MachineFlags → ℕ
path_flags machine = bit_or (O_PATH + ALWAYS) machine.directory

-- What is open may be opened once more: to read, to write or both; or by O_PATH, which has few flags beside it.
abbrev pub reopens : MachineFlags → ℕ → Bool
reopens machine flags =
    if has flags O_PATH then are_among flags (path_flags machine)
    else are_among flags (use_flags machine) && not (access flags == 3)

-- a new file, which has no name under O_TMPFILE
abbrev pub is_nameless : MachineFlags → ℕ → Bool
is_nameless machine flags = has flags (o_tmpfile machine)

abbrev pub is_new : MachineFlags → ℕ → Bool
is_new machine flags = has flags O_CREAT || is_nameless machine flags

-- what a path may be opened by
abbrev pub flags_of_path : MachineFlags → ℕ → ℕ
flags_of_path machine flags =
    if has flags O_PATH then bit_or (path_flags machine) (bit_or (O_CREAT + O_EXCL) machine.nofollow)
    else if is_nameless machine flags
    then bit_or (use_flags machine) (bit_or (bit_or O_EXCL machine.nofollow) (o_tmpfile machine))
    else bit_or (use_flags machine) (bit_or (O_CREAT + O_EXCL) machine.nofollow)

-- What open(2) has no meaning for: all three ways of access at once; O_CREAT of a directory, as it is under O_TMPFILE
-- as well; O_EXCL of what isn't new; O_TMPFILE of a file that can't be written.
abbrev pub contradict : MachineFlags → ℕ → Bool
contradict machine flags =
    (access flags == 3) || ((has flags O_CREAT && has flags machine.directory)
    || ((has flags O_EXCL && not (is_new machine flags)) || (is_nameless machine flags && (access flags == 0))))

-- permissions of what is new (inode(7)), and else none
abbrev pub fits_mode : MachineFlags → ℕ → ℕ → Bool
fits_mode machine flags mode = if is_new machine flags then nat_le mode 4095 else mode == 0

abbrev pub opens : MachineFlags → ℕ → ℕ → Bool
opens machine flags mode =
    are_among flags (flags_of_path machine flags)
    && (not (contradict machine flags) && fits_mode machine flags mode)

-- ---- what is done

-- What was found is opened by its descriptor: so nothing is made, and no link is met any more.
abbrev pub found_flags : MachineFlags → ℕ → ℕ
found_flags machine flags =
    bit_or (bit_and flags (bit_or (use_flags machine) (bit_or O_EXCL (o_tmpfile machine)))) ALWAYS

-- What is missing is made by its name: so what is there is never opened, nor what a link leads to.
abbrev pub made_flags : MachineFlags → ℕ → ℕ
made_flags machine flags = bit_or flags (bit_or (O_CREAT + O_EXCL + ALWAYS) machine.nofollow)

-- a directory isn't opened by O_CREAT
abbrev pub error_of_directory : ℕ → ℕ
error_of_directory flags = if has flags O_CREAT then EISDIR else 0

-- O_DIRECTORY is asked of the kind that was found where nothing is opened for use, which tells
abbrev pub error_of_other : MachineFlags → ℕ → ℕ
error_of_other machine flags = if has flags O_PATH && has flags machine.directory then ENOTDIR else 0

abbrev pub refused : Opening
refused =
    record {
      error = EINVAL;
      finds = false;
      makes = false;
      follows = false;
      directory = false;
      asks_kind = false;
      by_path = false;
      nameless = false;
      directory_error = 0;
      other_error = 0;
      found_flags = 0;
      made_flags = 0;
    }

-- What is there is found, unless O_CREAT and O_EXCL want it new; by O_CREAT it is made where it is missing. A link at
-- the end is followed but for O_NOFOLLOW. The kind matters where a directory is wanted, or none.
abbrev pub done : MachineFlags → ℕ → Opening
done machine flags =
    record {
      error = 0;
      finds = not (has flags O_CREAT && has flags O_EXCL);
      makes = has flags O_CREAT;
      follows = not (has flags machine.nofollow);
      directory = has flags machine.directory;
      asks_kind = has flags O_CREAT || has flags machine.directory;
      by_path = has flags O_PATH;
      nameless = is_nameless machine flags;
      directory_error = error_of_directory flags;
      other_error = error_of_other machine flags;
      found_flags = found_flags machine flags;
      made_flags = made_flags machine flags;
    }

abbrev pub opening_of : MachineFlags → ℕ → ℕ → Opening
opening_of machine flags mode = if opens machine flags mode then done machine flags else refused

-- the flags by which what is open is opened once more, or no bit
abbrev pub reopen_flags : MachineFlags → ℕ → ℕ
reopen_flags machine flags = if reopens machine flags then bit_or flags ALWAYS else 0
