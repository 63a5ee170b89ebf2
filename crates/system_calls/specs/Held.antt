-- What a call holds, by numbers: its descriptors, or its places in a table.
use Rattle.std.specs.Prelude.{ℕ, List, [], ◌∷◌, ◌==◌, if◌then◌else◌}

-- it holds this one no more
abbrev pub without : ℕ → List ℕ → List ℕ
without one [] = []
without one (held ∷ others) = if held == one then others else held ∷ without one others
