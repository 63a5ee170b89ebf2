-- How a list of turns is written as a schedule.
use Rattle.std.specs.Prelude.{ℕ, ◌+◌, ◌==◌, ◌&&◌, List, [], ◌∷◌, ◌++◌, Bool, true, nat_le, if◌then◌else◌, codes, decimal}

-- the first number isn't above the second, if there are two
abbrev pub begins_to_rise : List ℕ → Bool
begins_to_rise [] = true
begins_to_rise (i ∷ []) = true
begins_to_rise (i ∷ j ∷ is) = nat_le i j

-- no number is above the next
abbrev pub rises : List ℕ → Bool
rises [] = true
rises (i ∷ is) = begins_to_rise (i ∷ is) && rises is

-- A list without its longest tail that rises. A run adds that tail: after a schedule the actors go to their ends in
-- the order of their numbers.
abbrev pub without_tail : List ℕ → List ℕ
without_tail [] = []
without_tail (i ∷ is) = if rises (i ∷ is) then [] else i ∷ without_tail is

-- an actor's number, and how often it comes where that is more than once
abbrev pub turns_words : ℕ → ℕ → List ℕ
turns_words actor times = decimal actor ++ (if times == 1 then [] else codes "*" ++ decimal times)

-- so many turns of an actor, and then these: with commas between the actors
abbrev pub onward_words : ℕ → ℕ → List ℕ → List ℕ
onward_words actor times [] = turns_words actor times
onward_words actor times (i ∷ is) =
    if i == actor then onward_words actor (times + 1) is
    else turns_words actor times ++ (codes "," ++ onward_words i 1 is)

-- the turns, or `-` for none
abbrev pub turns_text : List ℕ → List ℕ
turns_text [] = codes "-"
turns_text (i ∷ is) = onward_words i 1 is

-- the schedule that leads to a full list of turns
unfoldable pub schedule_words : List ℕ → List ℕ
schedule_words is = turns_text (without_tail is)
