-- Numbers of lists, exact below a bound.
use Rattle.std.specs.Prelude.{ℕ, List, nat_lt, if◌then◌else◌, codes, decimal}
use Rattle.outcome_text.specs.declared.counts.TheConstants.{COUNT_MAX}

-- a number of lists, or the bound where it is no less
unfoldable pub count_words : ℕ → List ℕ
count_words n = if nat_lt n COUNT_MAX then decimal n else codes "1000000000000000000+"
