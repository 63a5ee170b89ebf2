-- What a cache finds is what its calls told last.
use Rattle.std.specs.Prelude.{◌≡◌, ◌<◌, ℕ, Bool, false, if◌then◌else◌, List, [], ◌∷◌, ◌++◌, length, Option, Some, None}
use Rattle.std.specs.List.{AllByRecursion}
use Rattle.tree_slab.specs.Cache.{Cache, IsCache, same_entry, empty, found, looked, noted, forgotten}

pub data Call : Type 0 where
  Look : ℕ → List ℕ → Call
  Note : ℕ → List ℕ → Option ℕ → Call
  Forget : ℕ → List ℕ → Call

-- the cache after calls, the latest call first
abbrev pub cache_after : ℕ → List Call → Cache
cache_after cap [] = empty cap
cache_after cap (Look d n ∷ before) = looked (cache_after cap before) d n
cache_after cap (Note d n x ∷ before) = noted (cache_after cap before) d n x
cache_after cap (Forget d n ∷ before) = forgotten (cache_after cap before) d n

-- what was noted last of an entry, and not forgotten since
abbrev pub last_noted : ℕ → List ℕ → List Call → Option (Option ℕ)
last_noted d n [] = None
last_noted d n (Look e m ∷ before) = last_noted d n before
last_noted d n (Note e m x ∷ before) = if same_entry (e, m) (d, n) then Some x else last_noted d n before
last_noted d n (Forget e m ∷ before) = if same_entry (e, m) (d, n) then None else last_noted d n before

-- whatever is found was noted last
abbrev pub HitsAreNotedLast : Type 0
HitsAreNotedLast = (cap : ℕ) (calls : List Call) (d : ℕ) (n : List ℕ) (x : Option ℕ)
    → found (cache_after cap calls) d n ≡ Some x → last_noted d n calls ≡ Some x

-- what was just noted is found
abbrev pub NotesAreFound : Type 0
NotesAreFound = (c : Cache) (d : ℕ) (n : List ℕ) (x : Option ℕ) → 0 < c.cap → found (noted c d n x) d n ≡ Some x

-- no call makes an entry be remembered twice, or too many
abbrev pub CallsKeepCaches : Type 0
CallsKeepCaches = (cap : ℕ) (calls : List Call) → IsCache (cache_after cap calls)

-- whether a call may change what is known of an entry
abbrev pub changes : Call → ℕ → List ℕ → Bool
changes (Look e m) d n = false
changes (Note e m x) d n = same_entry (e, m) (d, n)
changes (Forget e m) d n = same_entry (e, m) (d, n)

-- what was noted is found while fewer calls than the cap follow, none of which may change it
abbrev pub NotesAreKept : Type 0
NotesAreKept = (cap : ℕ) (since before : List Call) (d : ℕ) (n : List ℕ) (x : Option ℕ)
    → AllByRecursion (λ call. changes call d n ≡ false) since → length since < cap
    → found (cache_after cap (since ++ Note d n x ∷ before)) d n ≡ Some x
