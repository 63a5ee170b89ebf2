-- Numbers exchanged two by two, one exchange after another.
use Rattle.std.specs.Prelude.{⊤, ◌<◌, ◌≤◌, ◌==◌, ℕ, List, [], ◌∷◌, if◌then◌else◌}
use Rattle.node_numbering.specs.declared.exchange.Exchange.{Exchange}

-- a and b change numbers
abbrev pub exchanged : ℕ → ℕ → ℕ → ℕ
exchanged a b x = if x == a then b else (if x == b then a else x)

-- what a number is after these
abbrev pub after_all : List Exchange → ℕ → ℕ
after_all [] x = x
after_all (e ∷ es) x = after_all es (exchanged e.one e.other x)

-- what it was before them
abbrev pub before_all : List Exchange → ℕ → ℕ
before_all [] x = x
before_all (e ∷ es) x = exchanged e.one e.other (before_all es x)

-- each exchanges numbers from n on that are below m
abbrev pub AreWithin : ℕ → ℕ → List Exchange → Type 0
AreWithin n m [] = ⊤
AreWithin n m (e ∷ es) = ((n ≤ e.one) × (e.one < m)) × (((n ≤ e.other) × (e.other < m)) × AreWithin n m es)
