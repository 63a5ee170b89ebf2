-- The names that lie in a room.
use Rattle.std.proofs.Common.{◌≡◌, ◌≤◌, ◌+◌, ◌-◌, ℕ, List, [], ◌∷◌, ◌++◌, Bool, true, false, not, ◌||◌, ◌⊎◌, inl, inr, if◌then◌else◌, nat_lt, length, take, drop, refl, ap, sym, subst, ◌∙◌, arith, length-append, append_assoc, Some, None}
use Rattle.std.specs.List.{filter}
use Rattle.std.proofs.Math.Seq.{take-append_seam, take-append-add}
use Rattle.std.proofs.lemmas.Bool.{ltb-false}
use Rattle.std.proofs.lemmas.List.{length-drop, length-take-le}
use Rattle.std.proofs.lemmas.List.Elements.{filter-append}
use Rattle.path_text.specs.Name.{is_component, name_fault}
use Rattle.path_text.specs.Print.{after_slashes}
use Rattle.path_text.specs.Text.{is_empty}
use Rattle.path_text.specs.declared.errno.Errno.TheVariants.{Invalid, TooLong}
use Rattle.path_text.specs.declared.name.TheConstants.{NAME_MAX}
use Rattle.path_text.proofs.Lists.{slashes-append}
use Rattle.system_calls.specs.Listing.{entries_text, is_entry, IsTaken, Stops}
use Rattle.system_calls.specs.declared.records.Taken.{Taken}
use Rattle.list_directory.specs.Names.{idle, names_after, room_after, used_after, AreRead, IsRead, Reading}
use Rattle.list_directory.specs.declared.asking.Outcome.{Outcome}

-- ---- one read

laid_behind : (used : ℕ) (old entries more after : List ℕ) → used ≤ length old
    → take (used + length entries) (take used old ++ ((entries ++ more) ++ after)) ≡ take used old ++ entries
laid_behind used old entries more after few =
    let size : length (take used old) ≡ used = length-take-le used old few in
    ap (λ n. take (n + length entries) (take used old ++ ((entries ++ more) ++ after))) (sym size)
    ∙ take-append-add (take used old) ((entries ++ more) ++ after) (length entries)
    ∙ ap (λ l. take used old ++ take (length entries) l) (append_assoc entries more after)
    ∙ ap (λ l. take used old ++ l) (take-append_seam entries (more ++ after))

laid_size : (used taken : ℕ) (old part new after names : List ℕ) → new ≡ names ++ drop taken part
    → taken ≡ length names → taken ≤ length part → length part ≡ length old - used → used ≤ length old
    → length after ≡ 0 → length (take used old ++ (new ++ after)) ≡ length old
laid_size used taken old part new after names laid same fits size few none =
    let all = length-append (take used old) (new ++ after) in
    let behind = length-append new after in
    let both = ap length laid ∙ length-append names (drop taken part) in
    let rest = length-drop taken part in
    let front = length-take-le used old few in
    omega (arith, all, behind, both, rest, front, same, fits, size, few, none)

pub nothing_behind : (used : ℕ) (old : List ℕ) → length (drop (length old - used) (drop used old)) ≡ 0
nothing_behind used old =
    let all = length-drop (length old - used) (drop used old) in
    let front = length-drop used old in
    omega (arith, all, front)

pub lays : (used : ℕ) (bytes old part new after : List ℕ) (taken : Taken) (gave : Outcome)
    → IsTaken bytes part new taken → length part ≡ length old - used → used ≤ length old
    → length after ≡ 0
    → gave.used ≡ used + taken.used → gave.error ≡ taken.error → gave.last ≡ (taken.full || is_empty bytes)
    → IsRead used bytes old gave (take used old ++ (new ++ after))
lays used bytes old part new after taken gave t size few none more why last = (
  t.names,
  record {
    rest = t.rest;
    full = taken.full;
    read = t.read;
    used = more ∙ ap (λ n. used + n) t.used;
    within = omega (arith, more, t.within, size, few);
    size = laid_size used taken.used old part new after (entries_text t.names) t.laid t.used t.within size few none;
    laid = ap (λ n. take n (take used old ++ (new ++ after))) (more ∙ ap (λ n. used + n) t.used)
        ∙ ap (λ l. take (used + length (entries_text t.names)) (take used old ++ (l ++ after))) t.laid
        ∙ laid_behind used old (entries_text t.names) (drop taken.used part) after few;
    stop = subst (λ e. Stops t.rest (length old - gave.used) taken.full e) (sym why)
        (subst (λ n. Stops t.rest n taken.full taken.error) (omega (arith, more, size)) t.stop);
    last = last;
  },
)

-- ---- one read after another

entries-append : (xs ys : List (List ℕ)) → entries_text (xs ++ ys) ≡ entries_text xs ++ entries_text ys
entries-append xs ys = ap after_slashes (filter-append is_entry xs ys)
    ∙ slashes-append (filter is_entry xs) (filter is_entry ys)

same_size : (first : List ℕ) (readings : List Reading) → AreRead first readings
    → length (room_after first readings) ≡ length first
same_size first [] h = refl
same_size first (r ∷ older) h = h.0.size ∙ same_size first older h.1

pub within : (first : List ℕ) (readings : List Reading) → AreRead first readings
    → used_after readings ≤ length first
within first [] h = omega arith
within first (r ∷ older) h = omega (arith, h.0.within, same_size first older h.1)

pub all_laid : (first : List ℕ) (readings : List Reading) → AreRead first readings
    → take (used_after readings) (room_after first readings) ≡ entries_text (names_after readings)
all_laid first [] h = refl
all_laid first (r ∷ older) h =
    h.0.laid ∙ ap (λ l. l ++ entries_text r.names) (all_laid first older h.1)
    ∙ sym (entries-append (names_after older) r.names)

-- ---- the last read

short_by : (component long : Bool) (name : List ℕ) → nat_lt NAME_MAX (length name) ≡ long
    → (if not component then Some Invalid else (if long then Some TooLong else None)) ≡ None → length name ≤ NAME_MAX
short_by true true name l none = absurd (cc)
short_by true false name l none = ltb-false NAME_MAX (length name) l
short_by false long name l none = absurd (cc)

short : (name : List ℕ) → name_fault name ≡ None → length name ≤ NAME_MAX
short name none = short_by (is_component name) (nat_lt NAME_MAX (length name)) name refl none

none_by : (bytes : List ℕ) → is_empty bytes ≡ true → bytes ≡ []
none_by [] is = refl
none_by (b ∷ bytes) is = absurd (cc)

stop_by : (full : Bool) (bytes rest : List ℕ) (room error : ℕ) → Stops rest room full error
    → (full || is_empty bytes) ≡ true → (bytes ≡ []) ⊎ (room ≤ NAME_MAX)
stop_by true bytes rest room error stop is =
    let last = stop.1 in
    inr (omega (arith, last.short, short last.name last.fault))
stop_by false bytes rest room error stop is = inl (none_by bytes is)

left_by : (bytes : List ℕ) (size used : ℕ) → (bytes ≡ []) ⊎ (size - used ≤ NAME_MAX)
    → (bytes ≡ []) ⊎ (size ≤ used + NAME_MAX)
left_by bytes size used (inl none) = inl none
left_by bytes size used (inr few) = inr (omega (arith, few))

pub last_one : (first : List ℕ) (r : Reading) (older : List Reading) → AreRead first (r ∷ older)
    → r.gave.last ≡ true → (r.records ≡ []) ⊎ (length first ≤ r.gave.used + NAME_MAX)
last_one first r older h last =
    subst (λ n. (r.records ≡ []) ⊎ (n ≤ r.gave.used + NAME_MAX)) (same_size first older h.1)
    (left_by r.records (length (room_after first older)) r.gave.used
    (stop_by h.0.full r.records h.0.rest (length (room_after first older) - r.gave.used) r.gave.error h.0.stop
    (sym h.0.last ∙ last)))

-- ---- how many reads there are

some_by : (bytes : List ℕ) → 1 ≤ (if is_empty bytes then 1 else 0) + length bytes
some_by [] = omega arith
some_by (b ∷ bytes) = omega arith

pub few : (first : List ℕ) (readings : List Reading) → AreRead first readings
    → length readings ≤ idle readings + used_after readings
few first [] h = omega arith
few first (r ∷ older) h =
    let before = few first older h.1 in
    omega (arith, before, some_by (entries_text r.names), h.0.used)
