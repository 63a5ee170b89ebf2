-- What a try opens of a path, and how (path_resolution(7)).
use Rattle.std.specs.Prelude.{ℕ, ◌==◌, Bool, true, false, if◌then◌else◌}
use Rattle.open_partial.specs.declared.trials.Trial.{Trial}

-- the operations, as linux_call numbers them
abbrev pub RESOLVE : ℕ
RESOLVE = 1

abbrev pub RESOLVE_NOFOLLOW : ℕ
RESOLVE_NOFOLLOW = 2

-- So many bytes. The whole path is opened as what it means, with its link at the end or without. What comes before
-- another piece is a directory, to which a link may lead, too. An empty path means nothing; `.` means the directory
-- where a path begins.
abbrev pub trial_of : Bool → Bool → ℕ → Trial
trial_of true follows bytes =
    record {
      length = bytes;
      op = if follows then RESOLVE else RESOLVE_NOFOLLOW;
      directory = false;
      dot = false;
    }
trial_of false follows bytes = record { length = bytes; op = RESOLVE; directory = true; dot = bytes == 0 }
