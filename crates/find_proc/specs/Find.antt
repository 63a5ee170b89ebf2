-- A /proc for a call: the program's, or a new one.
use Rattle.std.specs.Prelude.{ℕ, List, [], ◌∷◌, ◌==◌, Bool, true, false, not, ◌&&◌, ◌||◌, if◌then◌else◌, bit_or, Result, Ok, Err}
use Rattle.system_calls.specs.Errors.{ENOSYS}
use Rattle.dialogue.specs.Dialogue.{Dialogue, and_then, calling, claims, closes, ends, keeps, opens}
use Rattle.dialogue.specs.declared.calls.Answer.{Answer}
use Rattle.find_proc.specs.Asks.{AT_FDCWD, by_path, file_of, has_floor, is_proc, is_short, opened_above}
use Rattle.find_proc.specs.declared.asks.File.{File}
use Rattle.find_proc.specs.declared.asks.Kept.{Kept}
use Rattle.find_proc.specs.declared.asks.Known.{Known}
use Rattle.find_proc.specs.declared.asks.Proc.{Proc}

-- ---- the one at hand

-- on the mount that is kept, whose number is known; and the very file if it must be
abbrev pub is_it : Kept → Bool → File → Bool
is_it kept surely file =
    not (file.mount == 0)
    && ((file.mount == kept.file.mount)
    && ((file.device == kept.file.device) && (not surely || (file.inode == kept.file.inode))))

abbrev pub hand_told : Kept → Bool → Result File ℕ → Bool
hand_told kept surely (Ok file) = is_it kept surely file
hand_told kept surely (Err error) = false

unfoldable pub is_at_hand : Kept → Bool → Dialogue Bool
is_at_hand kept surely =
    if not kept.there then ends false
    else and_then (file_of kept.fd) (λ r. ends (hand_told kept surely r))

abbrev pub floor_lost : Known → Bool → Dialogue Bool
floor_lost k has = if not has then ends true else and_then (is_at_hand k.kept true) (λ is. ends (not is))

unfoldable pub is_lost : Known → ℕ → Dialogue Bool
is_lost k fd =
    if not k.kept.there || not (k.kept.fd == fd) then ends false else and_then (has_floor k) (floor_lost k)

-- ---- a new one

-- `/proc`
abbrev pub AT_PROC : List ℕ
AT_PROC = 47 ∷ 112 ∷ 114 ∷ 111 ∷ 99 ∷ []

abbrev pub seen_proc : ℕ → Result Bool ℕ → Dialogue (Result File ℕ)
seen_proc fd (Ok true) = file_of fd
seen_proc fd (Ok false) = ends (Err ENOSYS)
seen_proc fd (Err error) = ends (Err ENOSYS)

unfoldable pub seen : ℕ → Dialogue (Result File ℕ)
seen fd = and_then (is_proc fd) (seen_proc fd)

abbrev pub open_error : ℕ → ℕ
open_error error = if is_short error then error else ENOSYS

-- a /proc for the call, or why there is none; and what is the program's then
pub record Found : Type 0 where
  pub proc : Result Proc ℕ
  pub kept : Kept

abbrev pub proc_of : ℕ → Bool → Proc
proc_of fd own = record { fd = fd; own = own }

abbrev pub kept_of : ℕ → File → Kept
kept_of fd file = record { file = file; fd = fd; there = true; handed_in = false; claimed = true }

abbrev pub claim_told : Kept → ℕ → File → Answer → Dialogue Found
claim_told kept fd file a =
    if not (a.error == 0) then ends (record { proc = Ok (proc_of fd true); kept = kept })
    else and_then (calling (keeps fd file.device file.inode file.mount false))
    (λ _. ends (record { proc = Ok (proc_of fd false); kept = kept_of fd file }))

-- the program's, if it has none; else the call's
unfoldable pub owned : Kept → ℕ → File → Dialogue Found
owned kept fd file = and_then (calling (claims false)) (claim_told kept fd file)

abbrev pub none : Kept → ℕ → Dialogue Found
none kept error = ends (record { proc = Err error; kept = kept })

abbrev pub new_seen : Kept → ℕ → Result File ℕ → Dialogue Found
new_seen kept fd (Ok file) = owned kept fd file
new_seen kept fd (Err error) = and_then (calling (closes fd)) (λ _. none kept error)

abbrev pub new_opened : Kept → Result ℕ ℕ → Dialogue Found
new_opened kept (Ok fd) = and_then (seen fd) (new_seen kept fd)
new_opened kept (Err error) = none kept (open_error error)

unfoldable pub find_new : Known → Dialogue Found
find_new k =
    and_then (opened_above (opens AT_FDCWD AT_PROC (bit_or (by_path k.machine.directory) k.machine.nofollow) 0))
    (new_opened k.kept)

-- Whoever has handed one in may know that somebody covers /proc.
abbrev pub hand_found : Known → Bool → Dialogue Found
hand_found k is =
    if is then ends (record { proc = Ok (proc_of k.kept.fd false); kept = k.kept })
    else (if k.kept.handed_in then none k.kept ENOSYS else find_new k)

abbrev pub floor_found : Known → Bool → Bool → Dialogue Found
floor_found k surely has =
    if not has then none k.kept ENOSYS else and_then (is_at_hand k.kept surely) (hand_found k)

unfoldable pub find : Known → Bool → Dialogue Found
find k surely = and_then (has_floor k) (floor_found k surely)
