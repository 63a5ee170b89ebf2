-- How many lists come to what looks the same, in a table by the bytes of each look.
use Rattle.std.specs.Borrow.{Bor}
use Rattle.std.specs.HashMap.{HashMap, get}
use Rattle.std.specs.List.{list_any}
use Rattle.std.specs.Prelude.{◌≡◌, ℕ, List, Bool, if◌then◌else◌, Option, Some, None}
use Rattle.path_text.specs.Name.{same_bytes}
use Rattle.outcome_text.specs.declared.survey.Told.{Told}
use Rattle.outcome_text.specs.Survey.{lists_where}

abbrev pub has_look : List ℕ → Told → Bool
has_look look told = same_bytes told.look look

-- how many lists come to this look, if an outcome has it
abbrev pub lists_of : List Told → List ℕ → Option ℕ
lists_of all look = if list_any (has_look look) all then Some (lists_where (has_look look) all) else None

-- what a table has for a look
abbrev pub entry_of : {S : Type 0} → HashMap (Bor (List ℕ)) ℕ S → Bor (List ℕ) → Option ℕ
entry_of sums look = get (λ x y. same_bytes x.now y.now) sums look

abbrev pub AreSums : {S : Type 0} → HashMap (Bor (List ℕ)) ℕ S → List Told → Type 0
AreSums sums all = (look : Bor (List ℕ)) → entry_of sums look ≡ lists_of all look.now

-- the same but for the looks of the earlier ones, which the table has no more
abbrev pub AreLeft : {S : Type 0} → HashMap (Bor (List ℕ)) ℕ S → List Told → List Told → Type 0
AreLeft sums earlier all = (look : Bor (List ℕ))
    → entry_of sums look ≡ (if list_any (has_look look.now) earlier then None else lists_of all look.now)
