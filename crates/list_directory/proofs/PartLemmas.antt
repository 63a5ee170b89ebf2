-- What a call holds of directories' names.
use Rattle.std.proofs.Common.{◌≡◌, ◌≤◌, ◌+◌, ◌-◌, ◌*◌, ℕ, List, [], ◌∷◌, Bool, true, false, if◌then◌else◌, nat_lt, ◌⊎◌, inl, inr, refl, arith}
use Rattle.std.specs.Prelude.{◌==◌, sum}
use Rattle.std.proofs.lemmas.Bool.{ltb-true, ltb-false}
use Rattle.std.proofs.lemmas.List.Sums.{sum_by-cons}
use Rattle.list_directory.specs.Parts.{beyond_least, held_after, part_size, share, without_at, Change, EachFits, ALL_NAMES, LEAST_PART, MOST_PART}
use Rattle.list_directory.specs.Parts.Change.{reads, lets_go}

size_by : (small large : Bool) (held : ℕ) → nat_lt (share held) LEAST_PART ≡ small
    → nat_lt MOST_PART (share held) ≡ large
    → ((if small then LEAST_PART else (if large then MOST_PART else share held)) ≡ LEAST_PART)
    ⊎ (held + 4 * (if small then LEAST_PART else (if large then MOST_PART else share held)) ≤ ALL_NAMES)
size_by true large held s l = inl refl
size_by false true held s l = inr (omega (arith, ltb-true MOST_PART (share held) l))
size_by false false held s l = inr (omega (arith, ltb-false (share held) LEAST_PART s))

pub size_is : (held : ℕ) → (part_size held ≡ LEAST_PART) ⊎ (held + 4 * part_size held ≤ ALL_NAMES)
size_is held = size_by (nat_lt (share held) LEAST_PART) (nat_lt MOST_PART (share held)) held refl refl

sum_more : (part : ℕ) (parts : List ℕ) → sum (part ∷ parts) ≡ part + sum parts
sum_more part parts = sum_by-cons (λ n. n) part parts

beyond_more : (part : ℕ) (parts : List ℕ) → beyond_least (part ∷ parts) ≡ (part - LEAST_PART) + beyond_least parts
beyond_more part parts = sum_by-cons (λ used. used - LEAST_PART) part parts

beyond_less : (parts : List ℕ) → beyond_least parts ≤ sum parts
beyond_less [] = omega arith
beyond_less (part ∷ parts) = omega (arith, beyond_less parts, sum_more part parts, beyond_more part parts)

fewer_by : (here : Bool) (part place : ℕ) (parts : List ℕ)
    → beyond_least (without_at (place - 1) parts) ≤ beyond_least parts
    → beyond_least (if here then parts else part ∷ without_at (place - 1) parts) ≤ beyond_least (part ∷ parts)
fewer_by true part place parts ih = omega (arith, beyond_more part parts)
fewer_by false part place parts ih =
    omega (arith, ih, beyond_more part parts, beyond_more part (without_at (place - 1) parts))

fewer : (place : ℕ) (parts : List ℕ) → beyond_least (without_at place parts) ≤ beyond_least parts
fewer place [] = omega arith
fewer place (part ∷ parts) = fewer_by (place == 0) part place parts (fewer (place - 1) parts)

more : (used : ℕ) (parts : List ℕ) → used ≤ part_size (sum parts) → beyond_least parts ≤ ALL_NAMES
    → (part_size (sum parts) ≡ LEAST_PART) ⊎ (sum parts + 4 * part_size (sum parts) ≤ ALL_NAMES)
    → beyond_least (used ∷ parts) ≤ ALL_NAMES
more used parts fits within (inl least) = omega (arith, fits, within, least, beyond_more used parts)
more used parts fits within (inr share) = omega (arith, fits, beyond_less parts, share, beyond_more used parts)

pub bounded : (changes : List Change) → EachFits changes → beyond_least (held_after changes) ≤ ALL_NAMES
bounded [] fit = omega arith
bounded (reads used ∷ older) fit =
    more used (held_after older) fit.0 (bounded older fit.1) (size_is (sum (held_after older)))
bounded (lets_go place ∷ older) fit =
    let less = fewer place (held_after older) in
    let before = bounded older fit.1 in
    omega (arith, less, before)
