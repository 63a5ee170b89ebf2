-- A call that asks for one step at a time: which lines lead from one of its turns to another.
use Rattle.std.specs.Prelude.{◌≡◌, ℕ, List, [], ◌∷◌, Bool, Option, Some, None}
use Rattle.path_text.specs.declared.errno.Errno.{Errno}
use Rattle.tree_model.specs.declared.answer.Answer.{Answer}
use Rattle.tree_model.specs.StepWith.{StepWith}
use Rattle.step_machine.specs.Told.{Line, answered, no_room, not_made, has_room, answer_of}

-- A machine has turns T, and states S of the turns that go on: which turn goes on in a state, and in which state a turn
-- goes on; the step that is due in it; why that may not be made; and what its answer makes of it, with room for what
-- the answer brings or without.
pub record Machine (T S : Type 0) : Type 1 where
  pub more : S → T
  pub under_way : T → Option S
  pub due : S → StepWith ℕ
  pub IsUnmade : S → Errno → Type 0
  pub take : Bool → S → Answer → T

module _ {T S : Type 0} (m : Machine T S) where
  -- the line is one for the step that is due
  abbrev pub Fits : S → Line → Type 0
  Fits s (answered step answer) = step ≡ m.due s
  Fits s (no_room step answer) = step ≡ m.due s
  Fits s (not_made error) = m.IsUnmade s error

  -- what the line makes of the call
  abbrev pub taken : S → Line → T
  taken s line = m.take (has_room line) s (answer_of line)

  -- a line that fits, of a call under way, after which this holds
  abbrev pub Then : Option S → Line → (T → Type 0) → Type 0
  Then None line After = ⊥
  Then (Some s) line After = Fits s line × After (taken s line)

  -- these lines, one by one, lead from one turn to another
  abbrev pub LeadsTo : T → List Line → T → Type 0
  LeadsTo turn [] end = turn ≡ end
  LeadsTo turn (line ∷ lines) end = Then (m.under_way turn) line (λ next. LeadsTo next lines end)

-- a turn that doesn't go on is an end
abbrev pub HasEnded : {S : Type 0} → Option S → Type 0
HasEnded None = Unit {0}
HasEnded (Some s) = ⊥
