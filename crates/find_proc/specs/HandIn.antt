-- A /proc that the program hands in.
use Rattle.std.specs.Prelude.{ℕ, ◌==◌, Bool, true, false, if◌then◌else◌, not, Result, Ok, Err}
use Rattle.system_calls.specs.Errors.{EBUSY, EINVAL, ENOSYS}
use Rattle.dialogue.specs.Dialogue.{Dialogue, and_then, calling, claims, ends, keeps, opens, releases}
use Rattle.dialogue.specs.declared.calls.Answer.{Answer}
use Rattle.find_proc.specs.Asks.{SAME, by_path, fails_closed, file_of, has_floor, is_proc, opened_above}
use Rattle.find_proc.specs.declared.asks.File.{File}
use Rattle.find_proc.specs.declared.asks.Known.{Known}

-- whether it is one, or why not
abbrev pub checked_of : Result Bool ℕ → Result (Unit {0}) ℕ
checked_of (Ok true) = Ok tt
checked_of (Ok false) = Err EINVAL
checked_of (Err error) = Err error

abbrev pub floor_checked : ℕ → Bool → Dialogue (Result (Unit {0}) ℕ)
floor_checked fd has = if not has then ends (Err ENOSYS) else and_then (is_proc fd) (λ r. ends (checked_of r))

unfoldable pub checked : Known → ℕ → Dialogue (Result (Unit {0}) ℕ)
checked k fd = and_then (has_floor k) (floor_checked fd)

abbrev pub is_ok : Result (Unit {0}) ℕ → Bool
is_ok (Ok _) = true
is_ok (Err error) = false

unfoldable pub is_believed : Known → ℕ → Dialogue Bool
is_believed k fd = and_then (checked k fd) (λ r. ends (is_ok r))

-- ---- a copy: its descriptor, and which file it is

abbrev pub copy_told : ℕ → Result File ℕ → Dialogue (Result (ℕ × File) ℕ)
copy_told fd (Ok file) = ends (Ok (fd, file))
copy_told fd (Err error) = fails_closed fd error

abbrev pub copy_opened : Result ℕ ℕ → Dialogue (Result (ℕ × File) ℕ)
copy_opened (Ok fd) = and_then (file_of fd) (copy_told fd)
copy_opened (Err error) = ends (Err error)

abbrev pub copy_checked : Known → ℕ → Result (Unit {0}) ℕ → Dialogue (Result (ℕ × File) ℕ)
copy_checked k fd (Ok _) =
    and_then (opened_above (opens fd SAME (by_path k.machine.directory) 0)) copy_opened
copy_checked k fd (Err error) = ends (Err error)

unfoldable pub copied : Known → ℕ → Dialogue (Result (ℕ × File) ℕ)
copied k fd = and_then (checked k fd) (copy_checked k fd)

-- ---- the program's

abbrev pub copy_handed : Bool → Result (ℕ × File) ℕ → Dialogue (Result (Unit {0}) ℕ)
copy_handed true (Ok (fd, file)) =
    and_then (calling (keeps fd file.device file.inode file.mount true)) (λ _. ends (Ok tt))
copy_handed false (Ok (fd, file)) = fails_closed fd EBUSY
copy_handed true (Err error) = and_then (calling releases) (λ _. ends (Err error))
copy_handed false (Err error) = ends (Err error)

abbrev pub claim_handed : Known → ℕ → Answer → Dialogue (Result (Unit {0}) ℕ)
claim_handed k fd a = and_then (copied k fd) (copy_handed (a.error == 0))

-- The place is claimed first: a child that is made from then on never goes by /proc.
unfoldable pub hand_in : Known → ℕ → Dialogue (Result (Unit {0}) ℕ)
hand_in k fd = and_then (calling (claims true)) (claim_handed k fd)
