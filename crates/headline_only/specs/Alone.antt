-- A resolution by what its end tells, and how it was led there.
use Rattle.std.specs.Prelude.{◌≡◌, ℕ, ◌⊎◌, List, [], ◌∷◌, ◌++◌, false}
use Rattle.path_text.specs.declared.errno.Errno.TheVariants.{NoMemory}
use Rattle.path_text.specs.Reading.{Reading}
use Rattle.tree_model.specs.declared.answer.Answer.{Answer}
use Rattle.tree_model.specs.declared.answer.Answer.TheVariants.{Refused}
use Rattle.tree_model.specs.declared.answer.Event.{Event}
use Rattle.step_resolver.specs.Order.{Way, Walking, Turn, due, is_close, Line, events_of, LeadsTo}
use Rattle.step_resolver.specs.WalkHistory.{WalkInHistory, IsWalkInHistory}
use Rattle.step_resolver.specs.Headline.{Headline}
use Rattle.step_resolver.specs.Driver.{IsWithoutBook}

-- The events booked meanwhile are those of lines, none of which stands for a step that was left out but for want of
-- memory; and in every history of a walk along this path that was told them the end is as the headline says.
pub record TellsAlone (way : Way) (path : Reading) (a : ℕ) (before after : List Event) (end : Turn) : Type 0 where
  pub lines : List Line
  pub booked : after ≡ before ++ events_of a lines
  pub without_book : IsWithoutBook lines
  pub tells : (w : WalkInHistory) → IsWalkInHistory w → w.way ≡ way → w.path ≡ path → w.lines ≡ lines → Headline w end

-- ---- on the way

-- the step that was due was made and booked, or there was no memory to make it
abbrev pub IsAnswer : Way → Walking → ℕ → List Event → List Event → Answer → Type 0
IsAnswer way walking a before after answer =
    (after ≡ before ++ record { actor = a; step = due way walking; answer = answer } ∷ [])
    ⊎ ((answer ≡ Refused NoMemory) × (after ≡ before) × (is_close (due way walking) ≡ false))

-- lines lead from one turn to the other, their events were booked, and the others are for want of memory
pub record Leads (way : Way) (a : ℕ) (before : List Event) (from : Turn) (after : List Event)
    (to : Turn) : Type 0 where
  pub lines : List Line
  pub leads : LeadsTo way from lines to
  pub booked : after ≡ before ++ events_of a lines
  pub without_book : IsWithoutBook lines
