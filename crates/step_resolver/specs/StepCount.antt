-- How many steps a walk makes, by the parts that it passes: the statement of the law.
use Rattle.std.specs.Prelude.{ℕ, suc, ◌+◌, ◌-◌, ◌*◌, ◌≤◌, List, [], ◌∷◌, length, Option, Some, None}
use Rattle.path_text.specs.Reading.{Reading}
use Rattle.path_text.specs.Text.{parts_of}
use Rattle.tree_model.specs.declared.answer.Answer.{Answer}
use Rattle.tree_model.specs.declared.answer.Answer.TheVariants.{Text}
use Rattle.step_machine.specs.Machine.{taken}
use Rattle.step_resolver.specs.Order.{Way, Todo, todo, After, gives, onward, judges, Walking, opening, reading, rising, judging, duping, ending, closing, Turn, more, found, partial, failed, begins, Line, LeadsTo, walks, answer_of}

abbrev pub parts_in : Todo → ℕ
parts_in (todo inner own b) = length inner + length own

abbrev pub to_come_after : After → Option ℕ
to_come_after (gives error) = None
to_come_after (onward position rest) = Some (parts_in rest)
to_come_after (judges handle names rest) = Some (suc (parts_in rest))

-- the parts still to come of a walk, the one for which a step is due among them; None where it only closes and fails
abbrev pub to_come : Walking → Option ℕ
to_come (opening position own follow n rest) = Some (suc (parts_in rest))
to_come (reading position link rest) = Some (suc (parts_in rest))
to_come (rising handle names rest) = Some (suc (parts_in rest))
to_come (judging handle names rest) = Some (suc (parts_in rest))
to_come (duping rest) = Some (length rest)
to_come (ending handle names rest) = Some (length rest)
to_come (closing h hs after) = to_come_after after

abbrev pub to_come_at : Turn → Option ℕ
to_come_at (more walk) = to_come walk
to_come_at (found handle names) = Some 0
to_come_at (partial handle names rest) = Some (length rest)
to_come_at (failed error) = None

-- the parts that an answer brings: those of a link's text
abbrev pub brought : Walking → Answer → ℕ
brought (reading position link rest) (Text text) = length (parts_of text)
brought _ _ = 0

-- so many parts were to come, and so many are left: the others were passed
abbrev pub passed : ℕ → Option ℕ → ℕ
passed came None = 0
passed came (Some left) = came - left

abbrev pub passed_from : Option ℕ → ℕ → Option ℕ → ℕ
passed_from None brought left = 0
passed_from (Some before) brought left = passed (before + brought) left

-- the parts passed by an answer
abbrev pub passed_by : Walking → Answer → Turn → ℕ
passed_by walk answer next = passed_from (to_come walk) (brought walk answer) (to_come_at next)

-- the parts passed while these lines lead on
abbrev pub parts_passed : Way → Turn → List Line → ℕ
parts_passed way turn [] = 0
parts_passed way (more walk) (line ∷ lines) =
    passed_by walk (answer_of line) (taken (walks way) walk line) + parts_passed way (taken (walks way) walk line) lines
parts_passed way _ (line ∷ lines) = 0

-- the parts that a walk along a path passed, of the caller's and of links' texts, those that need no step among them
abbrev pub walk_passed : Way → Reading → List Line → ℕ
walk_passed way path lines =
    passed (length path.parts) (to_come_at (begins way path)) + parts_passed way (begins way path) lines

-- A walk has four lines at most for each part that it passes, and four more.
abbrev pub StepsByPartsPassed : Type 0
StepsByPartsPassed = (way : Way) (path : Reading) (lines : List Line) (end : Turn)
    → LeadsTo way (begins way path) lines end
    → length lines ≤ 4 * walk_passed way path lines + 4
