-- Names written one after another.
use Rattle.std.specs.Prelude.{ℕ, List, [], ◌∷◌, ◌++◌}
use Rattle.event_log.specs.Output.{escaped}

-- a mark before each
abbrev pub names_after : List ℕ → List (List ℕ) → List ℕ
names_after mark [] = []
names_after mark (name ∷ names) = mark ++ (escaped name ++ names_after mark names)
