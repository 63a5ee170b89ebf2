-- What holds of pages: statements of laws.
use Rattle.std.specs.Prelude.{◌≢◌, ℕ, List, All}
use Rattle.pages.specs.Page.{html_text, script_text}

-- a byte begins no tag, no comment and nothing else of HTML's markup
abbrev pub BeginsNoTag : ℕ → Type 0
BeginsNoTag b = b ≢ 0x3c

-- whatever the bytes are, a text of HTML and data in a script have no such byte
abbrev pub TextOpensNoTag : Type 0
TextOpensNoTag = (text : List ℕ) → All BeginsNoTag (html_text text)

abbrev pub DataOpensNoTag : Type 0
DataOpensNoTag = (json : List ℕ) → All BeginsNoTag (script_text json)
