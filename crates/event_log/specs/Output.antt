-- The text that the program writes.
use Rattle.std.specs.Prelude.{◌≡◌, ℕ, ◌+◌, ◌/◌, ◌%◌, List, [], ◌∷◌, ◌++◌, ◌==◌, ◌&&◌, not, nat_lt, nat_le, if◌then◌else◌, codes, Result, OnOk, decimal}
use Rattle.std.specs.List.{flat_map}
use Rattle.path_text.specs.declared.errno.Errno.{Errno}
use Rattle.path_text.specs.Errno.{name_of}
use Rattle.path_text.specs.Print.{printed}
use Rattle.tree_model.specs.declared.step.Kind.{Kind}
use Rattle.tree_model.specs.declared.step.Kind.TheVariants.{Dir, File, Link}

abbrev pub kind_word : Kind → List ℕ
kind_word Dir = codes "dir"
kind_word File = codes "file"
kind_word Link = codes "link"

-- 0 to 9, then a to f
abbrev pub hex_digit : ℕ → ℕ
hex_digit value = if nat_lt value 10 then 48 + value else 87 + value

-- a byte from 0x21 to 0x7e but the backslash stands for itself, any other is written in hexadecimal
abbrev pub escaped_byte : ℕ → List ℕ
escaped_byte b =
    if nat_le 0x21 b && nat_le b 0x7e && not (b == 0x5c) then b ∷ []
    else codes "\\x" ++ hex_digit (b / 16) ∷ hex_digit (b % 16) ∷ []

abbrev pub escaped : List ℕ → List ℕ
escaped bs = flat_map escaped_byte bs

-- an object that was opened
abbrev pub opened_words : Kind → ℕ → List (List ℕ) → List ℕ
opened_words kind node names =
    codes "opened " ++ (kind_word kind ++ (codes " " ++ (decimal node ++ (codes " " ++ escaped (printed names)))))

abbrev pub opened_line : Kind → ℕ → List (List ℕ) → List ℕ
opened_line kind node names = opened_words kind node names ++ codes "\n"

-- a call that was refused
abbrev pub fault_words : Errno → List ℕ
fault_words error = codes "fault " ++ name_of error

abbrev pub fault_line : Errno → List ℕ
fault_line error = fault_words error ++ codes "\n"

-- a text grew by that, or there was no memory for it
abbrev pub Gains : {T E : Type 0} → List ℕ → List ℕ → List ℕ → Result T E → Type 0
Gains old new added result = OnOk result (new ≡ old ++ added)
