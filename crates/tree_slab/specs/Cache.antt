-- What a bounded memory of directory entries is, and what each call makes of it.
use Rattle.std.specs.Prelude.{◌≤◌, ℕ, ◌==◌, ◌&&◌, ◌||◌, not, if◌then◌else◌, nat_eq, nat_lt, Bool, List, [], ◌∷◌, length, take, filter, Option, Some, None}
use Rattle.std.specs.Cmp.Lexicographic.{pointwise}
use Rattle.std.specs.List.{IsDistinct}
use Rattle.std.specs.Option.{option_map_or}
use Rattle.std.specs.Map.{keys_of, lookup}
use Rattle.path_text.specs.declared.errno.Errno.{Errno}
use Rattle.path_text.specs.declared.errno.Errno.TheVariants.{Invalid}
use Rattle.tree_slab.specs.declared.cache.TheConstants.{CAP_MAX}

-- what is remembered, the most recently used first: an entry, which is a directory and a name in it, with the node
-- to which it leads, or None where there is no such entry. And how many may be remembered
pub record Cache : Type 0 where
  pub entries : List ((ℕ × List ℕ) × Option ℕ)
  pub cap : ℕ

-- the two are one entry
abbrev pub same_entry : ℕ × List ℕ → ℕ × List ℕ → Bool
same_entry k l = nat_eq k.0 l.0 && pointwise nat_eq k.1 l.1

-- no entry is remembered twice, and not too many are
pub record IsCache (c : Cache) : Type 0 where
  pub distinct : IsDistinct same_entry (keys_of c.entries)
  pub bounded : length c.entries ≤ c.cap

-- why so many entries can't be remembered
abbrev pub cap_fault : ℕ → Option Errno
cap_fault cap = if cap == 0 || nat_lt CAP_MAX cap then Some Invalid else None

abbrev pub empty : ℕ → Cache
empty cap = record { entries = []; cap = cap }

-- what is remembered of an entry, if it is
abbrev pub found : Cache → ℕ → List ℕ → Option (Option ℕ)
found c d n = lookup (same_entry (d, n)) c.entries

-- all others, in their order
abbrev pub others : Cache → ℕ → List ℕ → List ((ℕ × List ℕ) × Option ℕ)
others c d n = filter (λ e. not (same_entry (d, n) e.0)) c.entries

-- ---- after a call

-- the entry that was looked up is the most recently used, where it is remembered
abbrev pub looked : Cache → ℕ → List ℕ → Cache
looked c d n = option_map_or (λ x. record { entries = ((d, n), x) ∷ others c d n; cap = c.cap }) (found c d n) c

-- the entry that is noted is the most recently used, and where that is one too many the last goes
abbrev pub noted : Cache → ℕ → List ℕ → Option ℕ → Cache
noted c d n x = record { entries = take c.cap (((d, n), x) ∷ others c d n); cap = c.cap }

abbrev pub forgotten : Cache → ℕ → List ℕ → Cache
forgotten c d n = record { entries = others c d n; cap = c.cap }
