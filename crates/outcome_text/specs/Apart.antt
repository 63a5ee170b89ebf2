-- Parts by their beginnings in the order of words.
use Rattle.std.specs.Prelude.{◌&&◌, ℕ, List, [], ◌∷◌, Bool, true, false, map}
use Rattle.schedule_graph.specs.Words.{is_less_or}
use Rattle.outcome_text.specs.declared.apart.Placed.{Placed}
use Rattle.outcome_text.specs.declared.part.Part.{Part}

abbrev pub parts_in : List Placed → List Part
parts_in all = map (λ placed. placed.part.now) all

-- The first list has the lesser number where the two first differ. So neither begins with the other.
abbrev pub is_below : List ℕ → List ℕ → Bool
is_below [] others = false
is_below (i ∷ is) [] = false
is_below (i ∷ is) (j ∷ js) = is_less_or i j (is_below is js)

-- the beginning of each part, this one in front, is below that of the next
abbrev pub rise_after : Part → List Part → Bool
rise_after part [] = true
rise_after part (other ∷ parts) = is_below part.begin.items other.begin.items && rise_after other parts

abbrev pub rise : List Part → Bool
rise [] = true
rise (part ∷ parts) = rise_after part parts
