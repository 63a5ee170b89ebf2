-- What holds of whole conversations.
use Rattle.std.specs.Prelude.{◌≡◌, ◌<◌, ◌≤◌, ℕ, zero, suc, ◌+◌, ◌*◌, ◌%◌, List, [], ◌∷◌, ◌⊎◌, Bool, true, false, min}
use Rattle.system_calls.specs.Errors.{EAGAIN}
use Rattle.system_calls.specs.Tries.{TRIES}
use Rattle.dialogue.specs.Holds.{EachHolds}
use Rattle.remove_by_calls.specs.Removal.{COUNT_MAX, PLACES, removal}
use Rattle.remove_by_calls.specs.Seen.{AreFew, Seen, at_first, watch}
use Rattle.remove_by_calls.specs.declared.answers.Met.TheVariants.{Gone, Crowded, Failed}
use Rattle.remove_by_calls.specs.declared.removal.Came.{Came}
use Rattle.remove_by_calls.specs.declared.removal.Came.TheVariants.{Removed, Fails, Again}
use Rattle.remove_by_calls.specs.declared.removal.Removal.{Removal}

-- The last call was at the root, and the entry was gone by its end. The count is what all calls removed.
pub record IsWhole (s : Seen) (count : ℕ) : Type 0 where
  pub root : s.root ≡ true
  pub met : s.met ≡ Gone
  pub sum : count ≡ min s.removed COUNT_MAX

-- The error is the last call's. Or it is EAGAIN, since a call at the root and those in places behind it removed
-- nothing, though the last one met no error: others have removed what was there. EAGAIN only where there is no
-- further try.
pub record IsWhy (may_retry : Bool) (s : Seen) (error : ℕ) : Type 0 where
  pub reason : ((s.met ≡ Crowded error) ⊎ (s.met ≡ Failed error))
      ⊎ ((error ≡ EAGAIN) × ((s.met ≡ Gone) × (0 < s.idle)))
  pub no_more : error ≡ EAGAIN → (may_retry ≡ false) ⊎ (TRIES ≤ s.idle)

-- so many numbers of places from one on, the last first; 0 follows 15
abbrev pub ring : ℕ → ℕ → List ℕ
ring first zero = []
ring first (suc count) = ((first + count) % PLACES) ∷ ring first count

-- it goes on by what was seen
pub record GoesOn (s : Seen) (r : Removal) : Type 0 where
  pub removed : r.removed ≡ min s.removed COUNT_MAX
  pub idle : r.idle ≡ s.idle
  pub kept : s.kept ≡ ring r.outermost r.kept

abbrev pub EndsBy : Bool → Seen → Came → Type 0
EndsBy may_retry s (Removed count) = (s.kept ≡ []) × IsWhole s count
EndsBy may_retry s (Fails error) = (s.kept ≡ []) × IsWhy may_retry s error
EndsBy may_retry s (Again r) = GoesOn s r

-- what a call came to is kept, or it was none
pub record Ends (may_retry : Bool) (s : Seen) (c : Came) : Type 0 where
  pub waits : s.waits ≡ false
  pub few : AreFew s
  pub by : EndsBy may_retry s c

-- of so many calls: each is followed by 16 questions at most
abbrev pub RemovalsHold : Type 0
RemovalsHold =
    (may_retry : Bool) (n : ℕ) → EachHolds (watch may_retry) (17 * n) at_first (removal may_retry n) (Ends may_retry)
