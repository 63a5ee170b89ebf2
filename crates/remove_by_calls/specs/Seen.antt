-- What the exchanges of a removal come to, and where each question may come.
use Rattle.std.specs.Prelude.{◌≡◌, ◌≢◌, ℕ, suc, ◌+◌, ◌*◌, ◌<◌, ◌≤◌, List, [], ◌∷◌, ◌==◌, Bool, true, false, ◌&&◌, if◌then◌else◌, nat_lt}
use Rattle.system_calls.specs.Errors.{EAGAIN}
use Rattle.system_calls.specs.Held.{without}
use Rattle.system_calls.specs.Tries.{TRIES, pause_after}
use Rattle.dialogue.specs.Holds.{WatchOf, is_in}
use Rattle.remove_by_calls.specs.Answers.{met_of}
use Rattle.remove_by_calls.specs.Removal.{PLACES, steps}
use Rattle.remove_by_calls.specs.declared.answers.Answer.{Answer}
use Rattle.remove_by_calls.specs.declared.answers.Met.{Met}
use Rattle.remove_by_calls.specs.declared.answers.Met.TheVariants.{Gone, Deeper, Failed}
use Rattle.remove_by_calls.specs.declared.asking.Question.{Question}
use Rattle.remove_by_calls.specs.declared.asking.Question.TheVariants.{AtRoot, InPlace, Keep, Close}

pub record Seen : Type 0 where
  -- so many questions were asked
  pub asked : ℕ
  -- the numbers of the places that are kept, the innermost first
  pub kept : List ℕ
  -- the last call came to a place that isn't kept yet
  pub waits : Bool
  -- so many calls came to a place; so many entries were removed
  pub deeper : ℕ
  pub removed : ℕ
  -- so many times in a row a call at the root, with the calls in places behind it, has removed nothing
  pub idle : ℕ
  -- the last call was at the root, and it met this
  pub root : Bool
  pub met : Met

abbrev pub at_first : Seen
at_first = record {
  asked = 0;
  kept = [];
  waits = false;
  deeper = 0;
  removed = 0;
  idle = 0;
  root = false;
  met = Gone;
}

abbrev pub is_deeper : Met → Bool
is_deeper Deeper = true
is_deeper _ = false

abbrev pub called_by : Seen → Bool → ℕ → Met → Seen
called_by s root removed met = record s {
  asked = suc s.asked;
  waits = is_deeper met;
  deeper = s.deeper + (if is_deeper met then 1 else 0);
  removed = s.removed + removed;
  idle = if nat_lt 0 removed then 0 else (if root then suc s.idle else s.idle);
  root = root;
  met = met;
}

abbrev pub after : Seen → Question → Answer → Seen
after s (AtRoot pause) a = called_by s true a.removed (met_of a)
after s (InPlace place) a = called_by s false a.removed (met_of a)
after s (Keep place) a = record s { asked = suc s.asked; kept = place ∷ s.kept; waits = false }
after s (Close place) a = record s { asked = suc s.asked; kept = without place s.kept }

-- ---- where each question may come

-- After this another call may come: what is about bounds, or EAGAIN where another try may be made.
abbrev pub goes_on : Bool → Met → Bool
goes_on may_retry (Failed error) = may_retry && (error == EAGAIN)
goes_on may_retry _ = true

-- at the root, where no place is kept: 32 times in a row at most, and only once where no other try may be made
pub record MayBegin (may_retry : Bool) (s : Seen) (pause : ℕ) : Type 0 where
  pub kept : s.kept ≡ []
  pub goes : goes_on may_retry s.met ≡ true
  pub waits : s.waits ≡ false
  pub after : pause ≡ pause_after s.idle
  pub tries : s.idle < TRIES
  pub lets : s.idle ≢ 0 → may_retry ≡ true

-- in the innermost place
pub record MayGoOn (may_retry : Bool) (s : Seen) (place : ℕ) : Type 0 where
  pub around : List ℕ
  pub kept : s.kept ≡ place ∷ around
  pub goes : goes_on may_retry s.met ≡ true
  pub waits : s.waits ≡ false

-- once, the place to which the last call came; by a number of the table that is free
pub record MayKeep (s : Seen) (place : ℕ) : Type 0 where
  pub waits : s.waits ≡ true
  pub fits : place < PLACES
  pub free : is_in place s.kept ≡ false

abbrev pub MayCome : Bool → Seen → Question → Type 0
MayCome may_retry s (AtRoot pause) = MayBegin may_retry s pause
MayCome may_retry s (InPlace place) = MayGoOn may_retry s place
MayCome may_retry s (Keep place) = MayKeep s place
MayCome may_retry s (Close place) = is_in place s.kept ≡ true

-- Four questions for each call that came to a place; 34 for each entry that was removed: one for its own call, one for
-- a call at the root, and 32 tries in a row after it; and 32 tries at first.
abbrev pub AreFew : Seen → Type 0
AreFew s = s.asked ≤ 4 * s.deeper + 34 * s.removed + 32

abbrev pub May : Bool → Seen → Question → Type 0
May may_retry s q = AreFew s × MayCome may_retry s q

abbrev pub watch : Bool → WatchOf steps Seen
watch may_retry = record { by = λ s x. after s x.asked x.answer; May = May may_retry }
