-- What holds of the bytes of a name, a path or a text as they are written: statements of laws.
use Rattle.std.specs.Prelude.{◌≡◌, ◌<◌, ◌≤◌, ℕ, List, All}
use Rattle.event_log.specs.Output.{escaped}

-- a printed byte, and no blank
abbrev pub IsPrinted : ℕ → Type 0
IsPrinted b = (0x21 ≤ b) × (b ≤ 0x7e)

-- what is written has neither blanks nor newlines, whatever the bytes are
abbrev pub EscapedIsPrinted : Type 0
EscapedIsPrinted = (bs : List ℕ) → All (λ b. b < 256) bs → All IsPrinted (escaped bs)

-- two texts that are written alike are one
abbrev pub EscapedTellsApart : Type 0
EscapedTellsApart = (bs cs : List ℕ) → All (λ b. b < 256) bs → All (λ b. b < 256) cs → escaped bs ≡ escaped cs
    → bs ≡ cs
