-- What is done with an object that a call has found, by flags of open(2).
use Rattle.std.specs.Prelude.{ℕ, ◌==◌, not, ◌&&◌, if◌then◌else◌}
use Rattle.system_calls.specs.Errors.{ENOTDIR, EISDIR}
use Rattle.system_calls.specs.declared.opening.MachineFlags.{MachineFlags}
use Rattle.system_calls.specs.declared.opening.Opening.{Opening}
use Rattle.system_calls.specs.declared.uses.TheConstants.{USE_FAILS, USE_GIVES, USE_MAKES, USE_REOPENS}
use Rattle.system_calls.specs.declared.uses.Use.{Use}
use Rattle.system_calls.specs.OpenFlags.{has, O_CREAT, O_PATH}
use Rattle.system_calls.specs.Opening.{found_flags, is_nameless}

-- a directory, as `kind_of` has it
abbrev pub DIRECTORY : ℕ
DIRECTORY = 1

abbrev pub fails : ℕ → Use
fails error = record { flags = 0; what = USE_FAILS; error = error }

abbrev pub does : ℕ → ℕ → Use
does what flags = record { flags = flags; what = what; error = 0 }

-- By the opening: its error for this kind, if it has one; or the descriptor itself, a nameless file, or one more open.
abbrev pub error_of : Opening → ℕ → ℕ
error_of opening kind = if kind == DIRECTORY then opening.directory_error else opening.other_error

abbrev pub use_of : Opening → ℕ → Use
use_of opening kind =
    if not (error_of opening kind == 0) then fails (error_of opening kind)
    else (if opening.by_path then does USE_GIVES 0
    else (if opening.nameless then does USE_MAKES opening.found_flags else does USE_REOPENS opening.found_flags))

-- By the flags, as open(2) has them: O_CREAT opens no directory (EISDIR), and O_DIRECTORY nothing else (ENOTDIR). The
-- kernel itself sees to the second where it opens the object once more. Under O_PATH an object is only named. Under
-- O_TMPFILE a file is made in the directory.
abbrev pub use_by : MachineFlags → ℕ → ℕ → Use
use_by machine flags kind =
    if has flags O_CREAT && (kind == DIRECTORY) then fails EISDIR
    else (if has flags O_PATH
    then (if has flags machine.directory && not (kind == DIRECTORY) then fails ENOTDIR else does USE_GIVES 0)
    else (if is_nameless machine flags then does USE_MAKES (found_flags machine flags)
    else does USE_REOPENS (found_flags machine flags)))
