-- The turns that are asked for in place of a script's schedule, by a text of commas between `I` and `I*N`.
use Rattle.std.specs.Prelude.{⊤, ◌≡◌, ◌<◌, ◌≤◌, ◌^◌, ◌==◌, ◌⊎◌, ℕ, List, [], ◌∷◌, length, nat_le, nat_lt, codes, decimal, replicate, Result, Ok, Err}
use Rattle.std.specs.List.{flat_map, slice_split, position_or_len}
use Rattle.tree_model.specs.Entries.{refuse_if}
use Rattle.scripts.specs.declared.fault.ScriptFault.{ScriptFault}
use Rattle.scripts.specs.declared.fault.ScriptFault.TheVariants.{TooManyTurns, Turn}
use Rattle.scripts.specs.declared.turns.Turns.{Turns}
use Rattle.scripts.specs.Checks.{then_with}
use Rattle.scripts.specs.Limits.{MOST_TURNS}

abbrev pub COMMA : ℕ
COMMA = 0x2c

abbrev pub STAR : ℕ
STAR = 0x2a

-- ---- what a text says

abbrev pub pieces_of : List ℕ → List (List ℕ)
pieces_of text = slice_split (λ b. b == COMMA) text

abbrev pub words_of : List ℕ → List (List ℕ)
words_of piece = slice_split (λ b. b == STAR) piece

-- an actor's number alone, or with how often it comes
abbrev pub AreTurns : List (List ℕ) → Turns → Type 0
AreTurns (actor ∷ []) turns = (turns.actor < 2 ^ 32) × (actor ≡ decimal turns.actor) × (turns.times ≡ 1)
AreTurns (actor ∷ times ∷ []) turns =
    (turns.actor < 2 ^ 32) × (actor ≡ decimal turns.actor) × (times ≡ decimal turns.times) × (1 ≤ turns.times)
    × (turns.times ≤ MOST_TURNS)
AreTurns other turns = ⊥

-- each piece says its turns
abbrev pub AllSay : List (List ℕ) → List Turns → Type 0
AllSay [] [] = ⊤
AllSay [] (turns ∷ more) = ⊥
AllSay (piece ∷ pieces) [] = ⊥
AllSay (piece ∷ pieces) (turns ∷ more) = AreTurns (words_of piece) turns × AllSay pieces more

-- `-` says no turns
abbrev pub SaysTurns : List ℕ → List Turns → Type 0
SaysTurns text turns = ((text ≡ codes "-") × (turns ≡ [])) ⊎ AllSay (pieces_of text) turns

-- ---- the turns one by one

abbrev pub turns_of : List Turns → List ℕ
turns_of asked = flat_map (λ turns. replicate turns.times turns.actor) asked

abbrev pub few_turns : List Turns → Result (List ℕ) ScriptFault
few_turns asked = refuse_if (nat_lt MOST_TURNS (length (turns_of asked))) (Err TooManyTurns) (Ok (turns_of asked))

-- the place of the first turn that is none of so many actors', or how many turns there are
abbrev pub first_foreign : ℕ → List ℕ → ℕ
first_foreign actors turns = position_or_len (λ actor. nat_le actors actor) turns

-- the turns, unless one is no actor's: the first is told
abbrev pub own_turns : ℕ → List ℕ → Result (List ℕ) ScriptFault
own_turns actors turns = refuse_if (nat_lt (first_foreign actors turns) (length turns))
    (Err (Turn (first_foreign actors turns))) (Ok turns)

-- the schedule of so many actors that is asked for
abbrev pub turns_asked : ℕ → List Turns → Result (List ℕ) ScriptFault
turns_asked actors asked = then_with (few_turns asked) (own_turns actors)
