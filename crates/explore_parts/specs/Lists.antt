-- Lists of numbers as JSON.
use Rattle.std.specs.Prelude.{ℕ, List, ◌++◌, codes, decimal}
use Rattle.std.specs.Global.{Vec}
use Rattle.report_text.specs.Json.{comma_words}
use Rattle.report_text.specs.Report.{numbered}

abbrev pub number_words : ℕ → ℕ → List ℕ
number_words at number = comma_words at ++ decimal number

-- a list of numbers
abbrev pub numbers_words : List ℕ → List ℕ
numbers_words all = codes "[" ++ (numbered number_words 0 all ++ codes "]")

abbrev pub list_words : ℕ → List ℕ → List ℕ
list_words at all = comma_words at ++ numbers_words all

-- a list of lists of numbers
abbrev pub lists_words : List (Vec ℕ) → List ℕ
lists_words all = codes "[" ++ (numbered (λ at one. list_words at one.items) 0 all ++ codes "]")
