-- What the tries of a conversation come to: what is open, what was there, and what was missing.
use Rattle.std.specs.Prelude.{◌≡◌, ◌⊎◌, ℕ, suc, ◌-◌, ◌*◌, ◌^◌, ◌<◌, ◌≤◌, List, [], ◌∷◌, ◌++◌, ◌==◌, Bool, true, false, if◌then◌else◌, Option, Some, None}
use Rattle.system_calls.specs.Held.{without}
use Rattle.dialogue.specs.Holds.{WatchOf}
use Rattle.open_partial.specs.Search.{is_missing, pieces_of}
use Rattle.open_partial.specs.declared.asking.Outcome.{Outcome}
use Rattle.open_partial.specs.declared.asking.Question.{Question}
use Rattle.open_partial.specs.declared.asking.Question.TheVariants.{Try, Close}

-- a try of so many pieces opened this
pub record Opened : Type 0 where
  pub pieces : ℕ
  pub descriptor : ℕ

abbrev pub opening : ℕ → ℕ → Opened
opening pieces fd = record { pieces = pieces; descriptor = fd }

pub record Seen : Type 0 where
  -- so many tries were made, and so many descriptors closed
  pub tries : ℕ
  pub closes : ℕ
  -- the descriptors that are open, the last one first
  pub held : List ℕ
  -- the last try that opened something; and how many pieces were tried by the last one that found something missing
  pub opened : Option Opened
  pub missed : Option ℕ
  -- the last try was of so many pieces, and gave this error, or 0
  pub tried : ℕ
  pub error : ℕ

abbrev pub at_first : Seen
at_first = record { tries = 0; closes = 0; held = []; opened = None; missed = None; tried = 0; error = 0 }

abbrev pub opened_by : Seen → ℕ → ℕ → Seen
opened_by s n fd =
    record s { tries = suc s.tries; held = fd ∷ s.held; opened = Some (opening n fd); tried = n; error = 0 }

abbrev pub failed_by : Seen → ℕ → ℕ → Seen
failed_by s n error =
    record s {
      tries = suc s.tries;
      missed = if is_missing error then Some n else s.missed;
      tried = n;
      error = error;
    }

abbrev pub after : Seen → Question → Outcome → Seen
after s (Try n whole) a = if a.error == 0 then opened_by s n a.descriptor else failed_by s n a.error
after s (Close fd) a = record s { closes = suc s.closes; held = without fd s.held }

-- ---- where each question may come

-- the whole path is tried first
pub record IsFirst (pieces : ℕ) (s : Seen) (n : ℕ) (whole : Bool) : Type 0 where
  pub is : whole ≡ true
  pub all : n ≡ pieces
  pub first : s.tries ≡ 0

-- and then less
pub record IsLess (pieces : ℕ) (s : Seen) (n : ℕ) (whole : Bool) : Type 0 where
  pub is : whole ≡ false
  pub less : n < pieces
  pub later : 0 < s.tries

-- Of n pieces there are two tries more at most than how often n can be halved, rounded up; 13 of any path.
pub record AreFew (pieces tries : ℕ) : Type 0 where
  pub short : pieces ≤ 1 → tries ≤ 2
  pub long : 2 ≤ pieces → 2 ^ tries ≤ 8 * (pieces - 1)
  pub number : pieces ≤ 2048 → tries ≤ 13

-- what is closed is the one that was opened first of those that are open
pub record IsClosed (s : Seen) (fd : ℕ) : Type 0 where
  pub rest : List ℕ
  pub last : s.held ≡ rest ++ (fd ∷ [])
  pub few : s.closes < s.tries

abbrev pub May : ℕ → Seen → Question → Type 0
May pieces s (Try n whole) = (IsFirst pieces s n whole ⊎ IsLess pieces s n whole) × AreFew pieces (suc s.tries)
May pieces s (Close fd) = IsClosed s fd

abbrev pub watch : ℕ → WatchOf pieces_of Seen
watch pieces = record { by = λ s x. after s x.asked x.answer; May = May pieces }
