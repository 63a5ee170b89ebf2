-- What becomes of one record.
use Rattle.std.specs.Prelude.{◌≡◌, ◌≢◌, ◌+◌, ◌-◌, ◌≤◌, ℕ, List, [], ◌∷◌, ◌++◌, length, take, drop, true, None}
use Rattle.path_text.specs.Name.{name_fault}
use Rattle.system_calls.specs.Listing.{entries_text, is_entry, name_error}
use Rattle.system_calls.specs.declared.records.Step.{Step}
use Rattle.system_calls.specs.declared.records.Step.TheVariants.{Used, Full, Error}

-- a name was laid behind the bytes that were used, if it is an entry's; or the room stayed as it was
abbrev pub Steps : List ℕ → ℕ → List ℕ → List ℕ → Step → Type 0
Steps name used old new (Used now) =
    (name_error name ≡ 0) × (now ≡ used + length (entries_text (name ∷ []))) × (now ≤ length old)
    × (new ≡ take used old ++ (entries_text (name ∷ []) ++ drop now old))
Steps name used old new Full =
    (name_error name ≡ 0) × (is_entry name ≡ true) × (name_fault name ≡ None) × (length old - used ≤ length name)
    × (new ≡ old)
Steps name used old new (Error error) = (error ≢ 0) × (error ≡ name_error name) × (new ≡ old)
