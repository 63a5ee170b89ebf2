-- What holds of every book: a statement of a law.
use Rattle.std.specs.Prelude.{ℕ, ◌≤◌}
use Rattle.tree_model.specs.StepWith.{StepWith}
use Rattle.race_core.specs.Book.{BookedHistory, free_lines, booked}

-- no step leaves more free lines than there were: what a Close gives back it takes for itself
abbrev pub FreeLinesNeverRise : Type 0
FreeLinesNeverRise = (book : BookedHistory) (a : ℕ) (step : StepWith ℕ)
    → free_lines (booked book a step) ≤ free_lines book
