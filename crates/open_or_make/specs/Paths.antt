-- Where a path goes on behind a link (path_resolution(7)): the link's text stands in the place of the link, before what
-- comes behind it.
use Rattle.std.specs.Prelude.{ℕ, List, ◌∷◌, ◌++◌, ◌+◌, ◌-◌, ◌==◌, not, if◌then◌else◌, length, take, drop}
use Rattle.std.specs.List.{position_or_len}
use Rattle.path_text.specs.Text.{begins_with_slash, is_empty, name_size}
use Rattle.system_calls.specs.Place.{last_part}
use Rattle.path_text.specs.declared.name.TheConstants.{SLASH}

-- how many slashes a text begins with
abbrev pub slashes_size : List ℕ → ℕ
slashes_size text = position_or_len (λ b. not (b == SLASH)) text

-- where a text goes on behind the first name and the slashes there
abbrev pub rest_at : List ℕ → ℕ
rest_at text = name_size text + slashes_size (drop (name_size text) text)

-- a link's text before what comes behind the link, set off by a slash
abbrev pub before_rest : List ℕ → List ℕ → List ℕ
before_rest text rest = if is_empty rest then text else text ++ SLASH ∷ rest

-- the path with the text behind its first bytes, before what comes from there on
abbrev pub way : List ℕ → List ℕ → ℕ → ℕ → List ℕ
way path text front at = take front path ++ before_rest text (drop at path)

-- ---- a link at the path's end

-- how many bytes come before the path's last name: its directory's path, with the slash behind it
abbrev pub directory_length : List ℕ → ℕ
directory_length path = length path - length (last_part path)

-- A text that begins with a slash begins at the root. Any other one begins in the directory that has the link.
abbrev pub kept_length : List ℕ → List ℕ → ℕ
kept_length path text = if begins_with_slash text then 0 else directory_length path

-- the path to which the text of the link at this path's end leads
abbrev pub led_to : List ℕ → List ℕ → List ℕ
led_to path text = take (kept_length path text) path ++ text
