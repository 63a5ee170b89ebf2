-- What holds of whole calls.
use Rattle.std.specs.Prelude.{◌≡◌, ◌≢◌, ◌≤◌, ◌⊎◌, ℕ, ◌*◌, List, [], ◌∷◌, Bool, true, false, if◌then◌else◌, Some}
use Rattle.system_calls.specs.Tries.{TRIES}
use Rattle.dialogue.specs.Dialogue.{Whole}
use Rattle.dialogue.specs.Holds.{Holds}
use Rattle.call_course.specs.Course.{Exchange}
use Rattle.call_course.specs.Seen.{Seen, at_first, watch}
use Rattle.call_course.specs.Tries.{call}
use Rattle.call_course.specs.declared.things.Facts.{Facts}
use Rattle.call_course.specs.declared.tries.Tried.{Tried}

-- what is given, if it is a descriptor
abbrev pub given : Bool → ℕ → List ℕ
given holds value = if holds then value ∷ [] else []

-- What a call leaves that has come to this.
pub record Ends (facts : Facts) (s : Seen) (t : Tried) : Type 0 where
  -- what is given is all that is open, and was gained last; a call that fails has closed all
  pub held : s.held ≡ given t.holds t.value
  pub value : t.value ≡ s.value
  pub closed : t.error ≢ 0 → s.held ≡ []
  pub owns : s.owns ≡ false
  -- it fails by the last error that it met; where it ends, there is none
  pub why : t.error ≡ s.why
  -- where it fails and made no step, the root was looked at last; an error is the root's own by that look alone
  pub looked : t.error ≢ 0 → s.stepped ≡ false → (error : ℕ) × (s.root ≡ Some error)
  pub own : t.is_root ≡ true → s.root ≡ Some t.error
  -- what has failed before fails, by the root's own error or else by that one
  pub fails : facts.error ≢ 0 → t.error ≢ 0
  pub before : facts.error ≢ 0 → (t.is_root ≡ true) ⊎ (t.error ≡ facts.error)
  pub tries : s.begun ≤ TRIES
  pub pauses : s.pauses ≤ 18270000

-- of each whole call
abbrev pub CallsHold : Type 0
CallsHold = (facts : Facts) (es : List Exchange) (t : Tried) → Whole (call facts) es t
    → Holds (watch facts) (13 * TRIES) at_first es (λ s. Ends facts s t)
