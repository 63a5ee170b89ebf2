-- Facts about records that are read one after another, and names that are laid.
use Rattle.std.proofs.Common.{◌≡◌, ℕ, ◌+◌, ◌-◌, ◌≤◌, ◌<◌, Bool, true, false, not, ◌==◌, cond, List, [], ◌∷◌, ◌++◌, length, get_or, take, drop, map, refl, sym, ap, subst, ◌∙◌, arith, length-append, add-one, Option, Some, None, Bor, ◌⊎◌, inl, inr}
use Rattle.std.specs.Prelude.{MatchBool, slice_set}
use Rattle.std.specs.List.{filter, onto_first, sum_by}
use Rattle.std.specs.List.Sorted.{IsPermutation, IsSortedBy}
use Rattle.std.proofs.lemmas.Bool.{eqb-true, le-leb, lt-leb}
use Rattle.std.proofs.lemmas.List.{append-nil, get_or-map, length-map, take-append-drop, take_more, take_rest}
use Rattle.std.proofs.lemmas.List.Elements.{filter-append}
use Rattle.std.proofs.lemmas.List.Sorted.{sum_by-IsPermutation}
use Rattle.std.proofs.lemmas.List.Splits.{length-slice_split}
use Rattle.std.proofs.lemmas.List.Sums.{sum_by-cons}
use Rattle.path_text.specs.Errno.{number_of}
use Rattle.path_text.specs.declared.errno.Errno.TheVariants.{NoMemory}
use Rattle.path_text.specs.declared.name.TheConstants.{SLASH}
use Rattle.path_text.specs.Print.{after_slashes, printed}
use Rattle.path_text.specs.Text.{between_slashes, is_empty, pieces}
use Rattle.system_calls.specs.Errors.{ERANGE}
use Rattle.system_calls.specs.declared.listing.Sorted.{Sorted}
use Rattle.system_calls.specs.declared.records.Step.TheVariants.{Used}
use Rattle.system_calls.specs.Listing.{HEAD_SIZE, before_nul, entries_text, is_entry, is_whole, name_error, name_told, size_told, AreInOrder, IsLaidSorted, IsRefused, ReadsTo, Sorts}
use Rattle.system_calls.specs.Records.{Steps}
use Rattle.path_text.proofs.Lists.{slashes-append, put, printed_some}
use Rattle.path_text.proofs.TextLemmas.{starts, starts_bound}

-- ---- records

pub reads_more : (bytes : List ℕ) (names : List (List ℕ)) (rest name : List ℕ) → ReadsTo bytes names rest → name_told rest ≡ Some name → name_error name ≡ 0
    → ReadsTo bytes (names ++ name ∷ []) (drop (size_told rest) rest)
reads_more bytes [] rest name read told none = (ap name_told read ∙ told, none, ap (λ b. drop (size_told b) b) read)
reads_more bytes (first ∷ names) rest name read told none = (read.0, read.1, reads_more (drop (size_told bytes) bytes) names rest name read.2 told none)

-- the name of a whole record, as its bytes give it
pub told_as : (bytes : List ℕ) (size : ℕ) (name : Option (List ℕ)) → size ≡ size_told bytes → is_whole bytes ≡ true
    → name ≡ before_nul (take (size - HEAD_SIZE) (drop HEAD_SIZE bytes)) → name_told bytes ≡ name
told_as bytes size name is whole before =
    ap (λ t. cond t (before_nul (take (size_told bytes - HEAD_SIZE) (drop HEAD_SIZE bytes))) None) whole
    ∙ ap (λ k. before_nul (take (k - HEAD_SIZE) (drop HEAD_SIZE bytes))) (sym is) ∙ sym before

-- ---- names

pub entries_more : (names : List (List ℕ)) (name : List ℕ) → entries_text (names ++ name ∷ []) ≡ entries_text names ++ entries_text (name ∷ [])
entries_more names name = ap after_slashes (filter-append is_entry names (name ∷ [])) ∙ slashes-append (filter is_entry names) (filter is_entry (name ∷ []))

-- ---- a room

-- one more record is taken
pub taken_more : (records : List ℕ) (names : List (List ℕ)) (rest name next : List ℕ) (size used now : ℕ) (old room new : List ℕ)
    → ReadsTo records names rest → used ≡ length (entries_text names) → room ≡ entries_text names ++ drop (length (entries_text names)) old
    → size ≡ size_told rest → name_told rest ≡ Some name → next ≡ take (length rest - size) (drop size rest) → length new ≡ length room
    → Steps name used room new (Used now)
    → (all : List (List ℕ)) × ReadsTo records all next × (now ≡ length (entries_text all)) × (now ≤ length new)
    × (new ≡ entries_text all ++ drop (length (entries_text all)) old)
taken_more records names rest name next size used now old room new read used_is room_is size_is told next_is same step =
    let more = entries_more names name in
    let one = entries_text (name ∷ []) in
    let laid : new ≡ take used room ++ (one ++ drop (used + length one) room) = step.3 ∙ ap (λ k. take used room ++ (one ++ drop k room)) step.1 in
    let goes : next ≡ drop (size_told rest) rest = next_is ∙ take_rest rest size ∙ ap (λ k. drop k rest) size_is in (
      names ++ name ∷ [],
      subst (ReadsTo records (names ++ name ∷ [])) (sym goes) (reads_more records names rest name read told step.0),
      omega (arith, step.1, used_is, ap length more, length-append (entries_text names) one),
      omega (arith, step.2, same),
      subst (λ (l : List ℕ). new ≡ l ++ drop (length l) old) (sym more) (put (entries_text names) one old room new used used_is room_is laid),
    )

-- ---- sorted names

-- the names that lie in slices
abbrev pub names_of : List (Bor (List ℕ)) → List (List ℕ)
names_of names = map (λ name. name.now) names

-- one more name is laid
pub laid_more : (names : List (Bor (List ℕ))) (at : ℕ) (other : Bor (List ℕ)) → at < length names
    → after_slashes (take (at + 1) (names_of names)) ≡ after_slashes (take at (names_of names)) ++ SLASH ∷ (get_or names at other).now
laid_more names at other within =
    let all = names_of names in
    let inside : at < length all = omega (arith, within, length-map names (λ name. name.now)) in
    ap after_slashes (take_more all at [] inside)
    ∙ slashes-append (take at all) (get_or all at [] ∷ [])
    ∙ ap (λ (l : List ℕ). after_slashes (take at all) ++ SLASH ∷ l) (append-nil (get_or all at []))
    ∙ ap (λ (l : List ℕ). after_slashes (take at all) ++ SLASH ∷ l) (get_or-map (λ name. name.now) names at other [] within)

pub no_longer : (at : ℕ) (names : List (List ℕ)) → length (after_slashes (take at names)) ≤ length (after_slashes names)
no_longer at names =
    let whole = ap length (ap after_slashes (sym (take-append-drop at names)) ∙ slashes-append (take at names) (drop at names)) in
    omega (arith, whole, length-append (after_slashes (take at names)) (after_slashes (drop at names)))

-- a sort of slices sorts what they lend
pub sorted_map : {X Y : Type 0} (f : X → Y) (lt : Y → Y → Bool) (other : X) (xs : List X) → IsSortedBy (λ x y. lt (f x) (f y)) xs → IsSortedBy lt (map f xs)
sorted_map f lt other xs sorted k d low high =
    let short : k + 1 < length xs = omega (arith, high, length-map xs f) in
    let first : k < length xs = omega (arith, short) in
    ap (λ y. lt y (get_or (map f xs) k d)) (get_or-map f xs (k + 1) other d short)
    ∙ ap (λ y. lt (f (get_or xs (k + 1) other)) y) (get_or-map f xs k other d first) ∙ sorted k other low short

-- the bytes of names with a slash before each, counted
pub counted : (names : List (List ℕ)) → length (after_slashes names) ≡ sum_by (λ name. length name + 1) names
counted [] = refl
counted (name ∷ names) = omega (arith, length-append name (after_slashes names), counted names, sum_by-cons (λ n. length n + 1) name names)

pub same_count : (xs ys : List (List ℕ)) → IsPermutation xs ys → length (after_slashes ys) ≡ length (after_slashes xs)
same_count xs ys same = counted ys ∙ sum_by-IsPermutation (λ name. length name + 1) xs ys same ∙ sym (counted xs)

abbrev kept : List (List ℕ) → ℕ
kept parts = length (after_slashes (filter (λ p. not (is_empty p)) parts))

kept_step : (t : Bool) (b : ℕ) (parts : List (List ℕ)) (n : ℕ) → 0 < length parts → kept parts ≤ n + starts parts
    → kept (cond t ([] ∷ parts) (onto_first b parts)) ≤ n + 1 + starts (cond t ([] ∷ parts) (onto_first b parts))
kept_step t b [] n some h = absurd (omega (arith, some))
kept_step true b ([] ∷ ps) n some h = omega (arith, h)
kept_step true b ((c ∷ cs) ∷ ps) n some h = omega (arith, h)
kept_step false b ([] ∷ ps) n some h = omega (arith, h)
kept_step false b ((c ∷ cs) ∷ ps) n some h = omega (arith, h)

kept_bound : (text : List ℕ) → kept (between_slashes text) ≤ length text + starts (between_slashes text)
kept_bound [] = omega arith
kept_bound (b ∷ bs) =
    simp add-one at (kept_step (b == SLASH) b (between_slashes bs) (length bs) (omega (arith, length-slice_split (λ c. c == SLASH) bs)) (kept_bound bs))

-- a slash before each piece takes at most a byte more than the text has
pub pieces_bound : (text : List ℕ) → length (after_slashes (pieces text)) ≤ length text + 1
pieces_bound text = omega (arith, kept_bound text, starts_bound (between_slashes text))

pub printed_none : (names : List (List ℕ)) → length names ≡ 0 → printed names ≡ SLASH ∷ []
printed_none [] none = refl
printed_none (name ∷ names) none = absurd (omega (arith, none))

-- ---- what a sort leaves

pub sorts_short : (text old : List ℕ) → length old ≤ length text → Sorts text old old record { length = 0; error = ERANGE }
sorts_short text old short =
    subst (λ t. MatchBool t (IsRefused old old record { length = 0; error = ERANGE } ERANGE)
    (IsLaidSorted text old old record { length = 0; error = ERANGE } ⊎ IsRefused old old record { length = 0; error = ERANGE } (number_of NoMemory)))
    (sym (le-leb (length old) (length text) short)) record { error = refl; size = refl; same = refl }

sorts_long : (text old new : List ℕ) (sorted : Sorted) → length text < length old
    → (IsLaidSorted text old new sorted ⊎ IsRefused old new sorted (number_of NoMemory)) → Sorts text old new sorted
sorts_long text old new sorted long either =
    subst (λ t. MatchBool t (IsRefused old new sorted ERANGE) (IsLaidSorted text old new sorted ⊎ IsRefused old new sorted (number_of NoMemory)))
    (sym (lt-leb (length old) (length text) long)) either

pub sorts_never : (text old : List ℕ) (error : ℕ) → length text < length old → error ≡ number_of NoMemory
    → Sorts text old old record { length = 0; error = error }
sorts_never text old error long is =
    sorts_long text old old record { length = 0; error = error } long (inr record { error = is; size = refl; same = refl })

set_first : (old : List ℕ) (x : ℕ) → 0 < length old → slice_set old 0 x ≡ x ∷ drop 1 old
set_first [] x some = absurd (omega (arith, some))
set_first (b ∷ bs) x some = refl

pub sorts_none : (text old : List ℕ) (items slice : List (Bor (List ℕ))) (empty : Bool) → length text < length old → slice ≡ items
    → AreInOrder (pieces text) (names_of items) → empty ≡ (length slice == 0) → empty ≡ true → Sorts text old (slice_set old 0 SLASH) record { length = 1; error = 0 }
sorts_none text old items slice empty long lent order test none =
    let zero : length slice ≡ 0 = eqb-true (length slice) 0 (sym test ∙ none) in
    let nothing : length (names_of items) ≡ 0 = length-map items (λ name. name.now) ∙ ap length (sym lent) ∙ zero in
    let alone = printed_none (names_of items) nothing in
    sorts_long text old (slice_set old 0 SLASH) record { length = 1; error = 0 } long (inl record {
      names = names_of items;
      order = order;
      error = refl;
      size = ap length (sym alone);
      laid = set_first old SLASH (omega (arith, long)) ∙ ap (λ (l : List ℕ). l ++ drop (length l) old) (sym alone);
    })

some_of : {X : Type 0} (xs : List X) → (length xs == 0) ≡ false → 0 < length xs
some_of [] some = cc
some_of (x ∷ xs) some = omega arith

pub sorts_some : (text old new : List ℕ) (items slice : List (Bor (List ℕ))) (empty : Bool) (size : ℕ) → length text < length old → slice ≡ items
    → AreInOrder (pieces text) (names_of items) → empty ≡ (length slice == 0) → empty ≡ false → size ≡ length (after_slashes (names_of slice))
    → new ≡ after_slashes (names_of slice) ++ drop (length (after_slashes (names_of slice))) old → Sorts text old new record { length = size; error = 0 }
sorts_some text old new items slice empty size long lent order test some count laid =
    let more : 0 < length slice = some_of slice (sym test ∙ some) in
    let is : printed (names_of items) ≡ after_slashes (names_of slice) =
    printed_some (names_of items) (omega (arith, more, ap length lent, length-map items (λ name. name.now))) ∙ ap (λ l. after_slashes (names_of l)) (sym lent) in
    sorts_long text old new record { length = size; error = 0 } long (inl record {
      names = names_of items;
      order = order;
      error = refl;
      size = count ∙ ap length (sym is);
      laid = subst (λ (l : List ℕ). new ≡ l ++ drop (length l) old) (sym is) laid;
    })

-- there is room for all
pub room_for : (text old : List ℕ) (items slice : List (Bor (List ℕ))) → length text < length old → slice ≡ items
    → AreInOrder (pieces text) (names_of items) → length (after_slashes (names_of slice)) ≤ length old
room_for text old items slice long lent order =
    omega (arith, long, ap (λ l. length (after_slashes (names_of l))) lent, same_count (pieces text) (names_of items) order.same, pieces_bound text)
