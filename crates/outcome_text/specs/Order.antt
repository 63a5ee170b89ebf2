-- Outcomes in the order of their least lists.
use Rattle.std.specs.Prelude.{List, [], ◌∷◌, Bool, if◌then◌else◌}
use Rattle.schedule_graph.specs.Words.{Rank, is_at_most}
use Rattle.outcome_text.specs.declared.survey.Told.{Told}

-- by the cuts of the least list, then by its changes of actor, then as lists
abbrev pub rank_of : Told → Rank
rank_of told = record { cuts = told.cuts; changes = told.changes; turns = told.turns.items }

abbrev pub comes_before : Told → Told → Bool
comes_before told other = is_at_most (rank_of told) (rank_of other)

-- an outcome put in its place among others
abbrev pub put : Told → List Told → List Told
put told [] = told ∷ []
put told (other ∷ others) = if comes_before told other then told ∷ other ∷ others else other ∷ put told others

-- these outcomes put in their places among others, the last one first
abbrev pub put_all : List Told → List Told → List Told
put_all [] ordered = ordered
put_all (told ∷ all) ordered = put told (put_all all ordered)

abbrev pub in_order : List Told → List Told
in_order all = put_all all []
