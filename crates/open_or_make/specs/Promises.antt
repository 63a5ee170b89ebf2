-- What holds of whole conversations.
use Rattle.std.specs.Prelude.{◌≡◌, ◌≢◌, ◌≤◌, ℕ, zero, suc, List, ◌⊎◌, ◌&&◌, false, Some, length}
use Rattle.dialogue.specs.Dialogue.{and_then, ends}
use Rattle.dialogue.specs.Holds.{EachHolds}
use Rattle.open_or_make.specs.Paths.{kept_length, led_to, way}
use Rattle.open_or_make.specs.Pass.{Talk, ended, pass, NO_STEP}
use Rattle.open_or_make.specs.Seen.{Seen, Wish, May, after, at_first, begun, text_for, watch}
use Rattle.open_or_make.specs.declared.asking.Outcome.{Outcome}
use Rattle.open_or_make.specs.declared.asking.Question.{Question}
use Rattle.open_or_make.specs.declared.course.Came.{Came}
use Rattle.open_or_make.specs.declared.course.Came.TheVariants.{Fails, Again, Led}
use Rattle.open_or_make.specs.declared.course.Course.{Course}

-- ---- a whole call: one pass after another

abbrev pub go_on : Wish → (Course → List ℕ → Talk) → Course → List ℕ → Came → Talk
go_on w next c path (Again now) = next now path
go_on w next c path (Led now front) = next now (way path (text_for w c) front (length path))
go_on w next c path other = ends other

-- so many passes at most
abbrev pub passes : Wish → ℕ → Course → List ℕ → Talk
passes w zero c path = ends (Again c)
passes w (suc n) c path = and_then (pass c path (text_for w c)) (go_on w (passes w n) c path)

-- one for each of 40 links and 32 times somebody in between, and one more
abbrev pub PASSES : ℕ
PASSES = 73

abbrev pub open_all : Wish → Talk
open_all w = passes w PASSES (begun w) w.path

-- ---- how it ends

-- So many calls are the most: three in each pass, but in the last one, which finds nothing again.
abbrev pub CALLS_MAX : ℕ
CALLS_MAX = 217

abbrev pub IsReply : Came → Type 0
IsReply (Again c) = ⊥
IsReply (Led c front) = ⊥
IsReply other = Unit {0}

-- The reply is what the last call's answer says. Or the flags are refused: then no call was made.
pub record Ends (w : Wish) (s : Seen) (c : Came) : Type 0 where
  pub is : IsReply c
  pub said : (s.came ≡ Some c)
      ⊎ ((s.calls ≡ 0) × (w.opening.error ≢ 0) × (c ≡ Fails w.opening.error NO_STEP))
  pub few : s.calls ≤ CALLS_MAX

abbrev pub CallsHold : Type 0
CallsHold = (w : Wish) → EachHolds (watch w) 292 (at_first w) (open_all w) (Ends w)

-- Where what is there is only looked for, or what is made must be missing, whichever call comes ends it.
abbrev pub OneCallIsAll : Type 0
OneCallIsAll =
    (w : Wish) (s : Seen) (q : Question) (a : Outcome) → (w.opening.finds && w.opening.makes) ≡ false → May w s q
    → (s.calls ≡ 0) × ((after w s q a).came ≡ Some (ended a))

-- ---- links

-- where a link leads that is read at the path's end
abbrev pub LinksLead : Type 0
LinksLead = (path text : List ℕ) → way path text (kept_length path text) (length path) ≡ led_to path text
