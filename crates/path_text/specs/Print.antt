-- Names printed as an absolute path, and read back from it.
use Rattle.std.specs.Prelude.{ℕ, List, [], ◌∷◌, ◌++◌, ◌==◌, if◌then◌else◌, Option, Some, None}
use Rattle.std.specs.List.{list_all}
use Rattle.path_text.specs.declared.name.TheConstants.{SLASH}
use Rattle.path_text.specs.Name.{is_name}
use Rattle.path_text.specs.Text.{between_slashes}

-- a slash before each name
abbrev pub after_slashes : List (List ℕ) → List ℕ
after_slashes [] = []
after_slashes (name ∷ names) = SLASH ∷ name ++ after_slashes names

-- a slash before each name, and a slash alone for none
abbrev pub printed : List (List ℕ) → List ℕ
printed [] = SLASH ∷ []
printed (name ∷ names) = after_slashes (name ∷ names)

-- what stands between the slashes of a text, where each of them is a name
abbrev pub names_between : List ℕ → Option (List (List ℕ))
names_between text = if list_all is_name (between_slashes text) then Some (between_slashes text) else None

-- the names of a text that has a slash before each, or is a slash alone
abbrev pub names_read : List ℕ → Option (List (List ℕ))
names_read [] = None
names_read (b ∷ []) = if b == SLASH then Some [] else None
names_read (b ∷ c ∷ text) = if b == SLASH then names_between (c ∷ text) else None
