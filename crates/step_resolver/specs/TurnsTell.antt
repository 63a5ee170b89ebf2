-- What the turns of a walk tell, in every legal history in which the walk's lines led to them. openat2(2).
use Rattle.std.specs.Prelude.{◌≡◌, List, Bool}
use Rattle.path_text.specs.Reading.{Reading}
use Rattle.tree_model.specs.declared.answer.Answer.{Answer}
use Rattle.step_machine.specs.Tells.{Histories, lines_before}
use Rattle.step_machine.specs.Tells as machine
use Rattle.step_resolver.specs.Order.{Way, Walking, Turn, begins, starts, under_way, walks, Line}
use Rattle.step_resolver.specs.WalkHistory.{WalkInHistory, IsWalkInHistory}
use Rattle.step_resolver.specs.Headline.{Headline}

-- the legal histories of walks on this way
abbrev pub histories : Way → Histories Turn
histories way = record {
  History = WalkInHistory;
  Is = λ w. IsWalkInHistory w × (w.way ≡ way);
  begun = λ w. begins way w.path;
  lines = λ w. w.lines;
  Tells = Headline;
}

-- The turn is what the order of steps makes of the answer, with room or without; and it tells this of each history
-- in which the walk was led here and then told this answer. A walk that goes on has no end to tell of yet, so it is
-- held to the order.
unfoldable pub TellsTaken : Way → Walking → Answer → Turn → Type 0
TellsTaken way walking answer turn = machine.TellsTaken (walks way) (histories way) (λ next. turn ≡ next) walking answer

-- The lines up to the first turn: none; or, where a walk that would go on found no memory, that its first step
-- wasn't made.
abbrev pub first_lines : Bool → Turn → List Line
first_lines room turn = lines_before room (under_way turn)

-- The first turn is the one with which the order of steps begins, with room for the walk or without, and it tells
-- this of each history in which a walk on this way that began so was told no more than that.
unfoldable pub TellsBegun : Way → Reading → Turn → Type 0
TellsBegun way path turn =
    machine.TellsBegun (walks way) (histories way) (begins way path) (λ room. starts way room path)
    (λ next. turn ≡ next)
