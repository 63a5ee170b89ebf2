-- What the exchanges of a listing come to: what is open, and what was read.
use Rattle.std.specs.Prelude.{◌≡◌, ◌≢◌, ◌⊎◌, ℕ, suc, ◌+◌, List, [], ◌∷◌, ◌==◌, true, false, length, if◌then◌else◌, Option, Some, None}
use Rattle.std.specs.List.{AllByRecursion}
use Rattle.system_calls.specs.Errors.{EINTR, ENOENT}
use Rattle.system_calls.specs.Held.{without}
use Rattle.dialogue.specs.Holds.{WatchOf}
use Rattle.list_directory.specs.Reading.{listing_of}
use Rattle.list_directory.specs.declared.asking.Outcome.{Outcome}
use Rattle.list_directory.specs.declared.asking.Question.{Question}
use Rattle.list_directory.specs.declared.asking.Question.TheVariants.{Open, Read, Close, Sort}

pub record Seen : Type 0 where
  -- so many questions were asked; and so often a signal came as the directory was opened or read
  pub asked : ℕ
  pub signals : ℕ
  -- 0 or the error of the last open, but for a signal
  pub opened : Option ℕ
  -- the descriptors that are open
  pub held : List ℕ
  -- what the reads gave, but for signals, the last one first
  pub reads : List Outcome
  -- 0 or the error of the sort
  pub sorted : Option ℕ

abbrev pub nothing : Seen
nothing = record { asked = 0; signals = 0; opened = None; held = []; reads = []; sorted = None }

abbrev pub opened_by : Seen → Outcome → Seen
opened_by s a =
    if a.error == 0 then record s { opened = Some 0; held = a.descriptor ∷ s.held }
    else record s { opened = Some a.error }

abbrev pub seen_by : Seen → Question → Outcome → Seen
seen_by s Open a = if a.error == EINTR then record s { signals = suc s.signals } else opened_by s a
seen_by s (Read directory) a =
    if a.error == EINTR then record s { signals = suc s.signals } else record s { reads = a ∷ s.reads }
seen_by s (Close fd) a = record s { held = without fd s.held }
seen_by s (Sort used) a = record s { sorted = Some a.error }

abbrev pub after : Seen → Question → Outcome → Seen
after s q a = record (seen_by s q a) { asked = suc s.asked }

-- ---- reads

-- there may be more
abbrev pub IsMore : Outcome → Type 0
IsMore a = (a.error ≡ 0) × (a.last ≡ false)

-- there is no more: the directory is gone; or that was the end, or there is no more room
abbrev pub IsLast : Outcome → Type 0
IsLast a = (a.error ≡ ENOENT) ⊎ ((a.error ≡ 0) × (a.last ≡ true))

abbrev pub AreMore : List Outcome → Type 0
AreMore reads = AllByRecursion IsMore reads

-- the last read said so, and none before it
abbrev pub AreAll : List Outcome → Type 0
AreAll [] = ⊥
AreAll (a ∷ older) = IsLast a × AreMore older

-- the last read failed, and none before it
abbrev pub HaveFailed : List Outcome → ℕ → Type 0
HaveFailed [] error = ⊥
HaveFailed (a ∷ older) error = (a.error ≡ error) × (error ≢ 0) × (error ≢ ENOENT) × AreMore older

-- of the names, by the last read without an error
abbrev pub used_by : List Outcome → ℕ
used_by [] = 0
used_by (a ∷ older) = if a.error == 0 then a.used else used_by older

-- ---- where each question may come

-- no open came to an end, but by a signal
pub record IsUnopened (s : Seen) : Type 0 where
  pub opened : s.opened ≡ None
  pub held : s.held ≡ []
  pub reads : s.reads ≡ []
  pub sorted : s.sorted ≡ None
  pub few : s.asked ≡ s.signals

-- it is open, and there may be more
pub record IsOpen (s : Seen) (directory : ℕ) : Type 0 where
  pub held : s.held ≡ directory ∷ []
  pub more : AreMore s.reads
  pub sorted : s.sorted ≡ None
  pub few : s.asked ≡ suc (s.signals + length s.reads)

-- it is open, and the last read ended the reading
pub record IsRead (s : Seen) (directory : ℕ) : Type 0 where
  pub held : s.held ≡ directory ∷ []
  pub why : AreAll s.reads ⊎ ((error : ℕ) × HaveFailed s.reads error)

-- it is closed, and nothing failed; all names are sorted
pub record IsClosed (s : Seen) (size : ℕ) : Type 0 where
  pub held : s.held ≡ []
  pub all : AreAll s.reads
  pub used : size ≡ used_by s.reads
  pub sorted : s.sorted ≡ None

abbrev pub May : Seen → Question → Type 0
May s Open = IsUnopened s
May s (Read directory) = IsOpen s directory
May s (Close directory) = IsRead s directory
May s (Sort used) = IsClosed s used

abbrev pub watch : WatchOf listing_of Seen
watch = record { by = λ s x. after s x.asked x.answer; May = May }
