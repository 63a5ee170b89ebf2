-- The most that a script may have (inroot-script(5)).
use Rattle.std.specs.Prelude.{ℕ}

abbrev pub MOST_BYTES : ℕ
MOST_BYTES = 1048576

-- lists and objects that stand in one another
abbrev pub MOST_LEVELS : ℕ
MOST_LEVELS = 64

abbrev pub MOST_LINES : ℕ
MOST_LINES = 1000000

abbrev pub MOST_ENTRIES : ℕ
MOST_ENTRIES = 10000

abbrev pub MOST_ACTORS : ℕ
MOST_ACTORS = 64

-- of each actor
abbrev pub MOST_CALLS : ℕ
MOST_CALLS = 512

abbrev pub MOST_TURNS : ℕ
MOST_TURNS = 100000
