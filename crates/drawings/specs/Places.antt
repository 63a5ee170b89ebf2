-- Where what a step speaks of stands, by names from the top of the tree.
use Rattle.std.specs.Prelude.{ℕ, List, [], ◌∷◌, ◌++◌, reverse, Option, Some, None, codes}
use Rattle.std.specs.Option.{option_map, option_and_then}
use Rattle.path_text.specs.Print.{printed}
use Rattle.tree_model.specs.declared.inode.Inode.{Inode}
use Rattle.tree_model.specs.State.{State, TOP, names_below}
use Rattle.tree_model.specs.Steps.{held}
use Rattle.event_log.specs.Output.{escaped}

-- the names from the top down to a node; None where it stands nowhere any more
abbrev pub way_to : List Inode → ℕ → Option (List (List ℕ))
way_to nodes x = option_map reverse (names_below nodes TOP x)

-- the same of what an actor's handle is open on
abbrev pub way_of : State → ℕ → ℕ → Option (List (List ℕ))
way_of s actor handle = option_and_then (way_to s.nodes) (held s actor handle)

-- a place at the end of these names
abbrev pub place_words : Option (List (List ℕ)) → List ℕ
place_words None = codes "gone"
place_words (Some names) = escaped (printed names)

-- the entry of that name there
abbrev pub entry_words : Option (List (List ℕ)) → List ℕ → List ℕ
entry_words None name = codes "gone/" ++ escaped name
entry_words (Some names) name = escaped (printed (names ++ name ∷ []))
