-- What is told of a report.
use Rattle.std.specs.Prelude.{ℕ, ◌==◌, List, [], ◌∷◌, ◌++◌, Bool, if◌then◌else◌, codes, decimal}
use Rattle.std.specs.List.{list_any}
use Rattle.race_core.specs.declared.report.Outcome.{Outcome}
use Rattle.report_text.specs.Report.{numbered, actor_lines, reply_lines, row_lines, held_lines}
use Rattle.tree_model.specs.State.{State}
use Rattle.outcome_text.specs.Changes.{changes_text}

abbrev pub is_named : List ℕ → ℕ → Bool
is_named named actor = list_any (λ i. i == actor) named

-- the replies of an actor that is named
abbrev pub named_lines_of : List ℕ → ℕ → List Outcome → List ℕ
named_lines_of named actor outcomes = if is_named named actor then actor_lines actor outcomes else []

abbrev pub named_lines : List ℕ → List (List Outcome) → List ℕ
named_lines named replies = numbered (named_lines_of named) 0 replies

-- outside I N: so many steps of an actor acted outside of its root
abbrev pub outside_line : ℕ → ℕ → List ℕ
outside_line actor steps = (codes "outside " ++ decimal actor) ++ ((codes " " ++ decimal steps) ++ codes "\n")

-- one for each actor that steps were counted of
abbrev pub outside_lines : List ℕ → List ℕ
outside_lines outside = numbered outside_line 0 outside

-- that of an actor that is named
abbrev pub named_outside_of : List ℕ → ℕ → ℕ → List ℕ
named_outside_of named actor steps = if is_named named actor then outside_line actor steps else []

abbrev pub named_outside : List ℕ → List ℕ → List ℕ
named_outside named outside = numbered (named_outside_of named) 0 outside

-- Of the actors that are named the replies alone. Where none is: all replies, the entries that are no more and the
-- new ones, and how many handles each actor has open. Then how many steps acted outside, where they were counted.
abbrev pub outcome_lines : List ℕ → State → List (List Outcome) → State → List ℕ → ℕ → List ℕ
outcome_lines [] opening replies s outside actors =
    reply_lines replies ++ (changes_text (codes "minus ") opening.nodes s.nodes
    ++ (changes_text (codes "plus ") s.nodes opening.nodes ++ (held_lines s actors ++ outside_lines outside)))
outcome_lines (i ∷ is) opening replies s outside actors =
    named_lines (i ∷ is) replies ++ named_outside (i ∷ is) outside

-- all lines of a report but those of events, and then how many steps acted outside
abbrev pub report_lines : List (List Outcome) → State → List ℕ → ℕ → List ℕ
report_lines replies s outside actors =
    reply_lines replies ++ (row_lines s.nodes ++ (held_lines s actors ++ outside_lines outside))

-- those that a report is judged by, if any property judges it
abbrev pub judged_lines : Bool → List (List Outcome) → State → List ℕ → ℕ → List ℕ
judged_lines judged replies s outside actors = if judged then report_lines replies s outside actors else []
