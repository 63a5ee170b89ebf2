-- Checks that are made in their order: the first that fails is told.
use Rattle.std.specs.Prelude.{ℕ, ◌+◌, ◌==◌, List, [], ◌∷◌, Bool, nat_lt, Result, Ok, Err}
use Rattle.serde_json.specs.Data.{Data, Items, no_items, item}
use Rattle.scripts.specs.declared.fault.ScriptFault.{ScriptFault}

-- the value, or what goes on with it
abbrev pub then_with : {A B : Type 0} → Result A ScriptFault → (A → Result B ScriptFault) → Result B ScriptFault
then_with (Ok x) onward = onward x
then_with (Err fault) onward = Err fault

-- how many elements a list has
abbrev pub count_of : Items → ℕ
count_of no_items = 0
count_of (item d ds) = 1 + count_of ds

abbrev pub has_none : Items → Bool
has_none items = count_of items == 0

-- there are more than so many
abbrev pub are_over : ℕ → Items → Bool
are_over most items = nat_lt most (count_of items)

-- what each element says by its number, from k on, or the fault of the first that says nothing
abbrev pub each : {A : Type 0} → (ℕ → Data → Result A ScriptFault) → ℕ → Items → Result (List A) ScriptFault
each says k no_items = Ok []
each says k (item d ds) = then_with (says k d) (λ x. then_with (each says (k + 1) ds) (λ xs. Ok (x ∷ xs)))
