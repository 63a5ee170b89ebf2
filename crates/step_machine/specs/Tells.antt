-- What the turns of a call tell, in every history in which the call's lines led to them.
use Rattle.std.specs.Prelude.{◌≡◌, List, [], ◌∷◌, ◌++◌, Bool, true, false, Option, Some, None}
use Rattle.path_text.specs.declared.errno.Errno.TheVariants.{NoMemory}
use Rattle.tree_model.specs.declared.answer.Answer.{Answer}
use Rattle.tree_model.specs.declared.answer.Answer.TheVariants.{Refused}
use Rattle.step_machine.specs.Told.{Line, answered, no_room, not_made}
use Rattle.step_machine.specs.Machine.{Machine, LeadsTo}

-- The histories of a machine's calls: which they are, the turn with which the call of one began and the lines that it
-- was told, and what a turn tells of it.
pub record Histories (T : Type 0) : Type 1 where
  pub History : Type 0
  pub Is : History → Type 0
  pub begun : History → T
  pub lines : History → List Line
  pub Tells : History → T → Type 0

-- The lines up to the first turn: none; or, where a call that would go on found no memory, that its first step wasn't
-- made.
abbrev pub lines_before : {S : Type 0} → Bool → Option S → List Line
lines_before true begun = []
lines_before false None = []
lines_before false (Some s) = not_made NoMemory ∷ []

module _ {T S : Type 0} (m : Machine T S) where
  -- The line that the answer to the due step is: the step was made, with room for what the answer brings or without;
  -- or it wasn't made, for a want that is handed in as its refusal.
  abbrev pub IsLineOf : Bool → S → Answer → Line → Type 0
  IsLineOf room s answer (answered step told) = (room ≡ true) × (step ≡ m.due s) × (told ≡ answer)
  IsLineOf room s answer (no_room step told) = (room ≡ false) × (step ≡ m.due s) × (told ≡ answer)
  IsLineOf room s answer (not_made error) = m.IsUnmade s error × (answer ≡ Refused error)

  -- a call that began so was told lines that led it here, and then the line of this answer
  pub record IsTaken (begun : T) (room : Bool) (s : S) (answer : Answer) (lines : List Line) : Type 0 where
    pub before : List Line
    pub last : Line
    pub all : lines ≡ before ++ last ∷ []
    pub led_here : LeadsTo m begun before (m.more s)
    pub is_last : IsLineOf room s answer last

  module _ (h : Histories T) where
    -- the end of each call tells of its history
    abbrev pub EveryCallTells : Type 0
    EveryCallTells = (w : h.History) (end : T) → h.Is w → LeadsTo m (h.begun w) (h.lines w) end → h.Tells w end

    -- The turn is what the order of steps makes of the answer, with room or without; and it tells this of each history
    -- in which the call was led here and then told this answer.
    pub record TellsTaken (IsTurn : T → Type 0) (s : S) (answer : Answer) : Type 0 where
      pub room : Bool
      pub is_turn : IsTurn (m.take room s answer)
      pub tells : (w : h.History) → h.Is w → IsTaken (h.begun w) room s answer (h.lines w)
          → h.Tells w (m.take room s answer)

    -- The first turn is the one with which the order of steps begins, with room for the call or without; and it tells
    -- this of each history in which a call that began so was told no more than that.
    pub record TellsBegun (begun : T) (starts : Bool → T) (IsTurn : T → Type 0) : Type 0 where
      pub room : Bool
      pub is_turn : IsTurn (starts room)
      pub tells : (w : h.History) → h.Is w → h.begun w ≡ begun → h.lines w ≡ lines_before room (m.under_way begun)
          → h.Tells w (starts room)
