-- The texts that the options of a command line give.
use Rattle.std.specs.Prelude.{List, ℕ, map}
use Rattle.std.specs.Borrow.{Bor}

-- the texts of an option that may come more than once
abbrev pub texts_in : List (Bor (List ℕ)) → List (List ℕ)
texts_in given = map (λ text. text.now) given
