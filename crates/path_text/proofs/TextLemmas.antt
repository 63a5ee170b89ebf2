-- Facts about the pieces of a text.
use Rattle.std.proofs.Common.{◌≡◌, ℕ, ◌+◌, ◌-◌, ◌*◌, ◌≤◌, ◌<◌, Bool, true, false, not, ◌==◌, ◌&&◌, ◌||◌, cond, nat_lt, List, [], ◌∷◌, ◌++◌, length, get_or, map, refl, sym, ◌∙◌, arith, nat_eq, add-one, ltb}
use Rattle.std.specs.Prelude.{Some, None, slice_get, if◌then◌else◌}
use Rattle.std.specs.Option.{option_eq}
use Rattle.std.specs.List.{list_any, list_all, filter, onto_first, position, position_or_len}
use Rattle.std.proofs.lemmas.Bool.Decides.{nat_tests}
use Rattle.std.proofs.lemmas.List.{length-append, length-map}
use Rattle.std.proofs.lemmas.List.Sums.{AllPass-from_list_all, prefix_len-le-length}
use Rattle.std.proofs.lemmas.Bool.{ltb-false}
use native.Mathlib.Numerals.{unary_clauses}
pub use Rattle.std.proofs.lemmas.Bool.{and_parts as and_true, or_parts as or_false}
use Rattle.path_text.specs.declared.name.TheConstants.{SLASH}
use Rattle.path_text.specs.declared.part.Part.{Part}
use Rattle.path_text.specs.declared.part.Part.TheVariants.{Cur}
use Rattle.path_text.specs.declared.errno.Errno.TheVariants.{NotFound, Invalid, TooLong}
use Rattle.path_text.specs.declared.path.TheConstants.{TEXT_MAX, PARTS_MAX}
use Rattle.path_text.specs.Name.{NUL}
use Rattle.path_text.specs.Reading.{ends_in_cur, IsReading}
use Rattle.path_text.specs.Text.{is_empty, between_slashes, pieces, is_piece, part_of, ends_with_slash, has_final_slash, parts_of, text_fault}

pub is_empty-length : (bs : List ℕ) → is_empty bs ≡ (length bs == 0)
is_empty-length [] = refl
is_empty-length (b ∷ bs) = grind (arith, nat_tests)

-- the last byte tells whether a text ends with a slash
pub ends_with_slash_last : (bs : List ℕ) → ends_with_slash bs ≡ option_eq nat_eq (slice_get bs (length bs - 1)) (Some SLASH)
ends_with_slash_last [] = refl
ends_with_slash_last (b ∷ []) = refl
ends_with_slash_last (b ∷ c ∷ bs) = simp unary_clauses (simp unary_clauses at (ends_with_slash_last (c ∷ bs)))

-- ---- the pieces are pieces

-- no slash and no NUL among the bytes
abbrev is_clean : List ℕ → Bool
is_clean bs = not (list_any (λ b. b == SLASH) bs) && not (list_any (λ b. b == NUL) bs)

is_clean_onto_first : (b : ℕ) (parts : List (List ℕ)) → (b == SLASH) ≡ false → (b == NUL) ≡ false → list_all is_clean parts ≡ true → list_all is_clean (onto_first b parts) ≡ true
is_clean_onto_first b [] s n h = rw (s, n)
is_clean_onto_first b (p ∷ ps) s n h = rw (s, n) h

is_clean_step : (b : ℕ) (t : Bool) (parts : List (List ℕ)) → (b == SLASH) ≡ t → (b == NUL) ≡ false → list_all is_clean parts ≡ true → list_all is_clean (cond t ([] ∷ parts) (onto_first b parts)) ≡ true
is_clean_step b true parts s n h = h
is_clean_step b false parts s n h = is_clean_onto_first b parts s n h

is_clean_between : (text : List ℕ) → list_any (λ b. b == NUL) text ≡ false → list_all is_clean (between_slashes text) ≡ true
is_clean_between [] h = refl
is_clean_between (b ∷ bs) h =
    let parts = or_false (b == NUL) (list_any (λ c. c == NUL) bs) h in
    is_clean_step b (b == SLASH) (between_slashes bs) refl parts.0 (is_clean_between bs parts.1)

is_piece_filter : (xs : List (List ℕ)) → list_all is_clean xs ≡ true → list_all is_piece (filter (λ p. not (is_empty p)) xs) ≡ true
is_piece_filter [] h = refl
is_piece_filter ([] ∷ xs) h = is_piece_filter xs h
is_piece_filter ((b ∷ bs) ∷ xs) h =
    let parts = and_true (is_clean (b ∷ bs)) (list_all is_clean xs) h in
    let rest = is_piece_filter xs parts.1 in
    rw (rest, parts.0)

-- each piece of a text without NUL can stand between two slashes
pub is_piece_of : (text : List ℕ) → list_any (λ b. b == NUL) text ≡ false → (i : ℕ) (d : List ℕ) → i < length (pieces text) → is_piece (get_or (pieces text) i d) ≡ true
is_piece_of text h = AllPass-from_list_all is_piece (pieces text) (is_piece_filter (between_slashes text) (is_clean_between text h))

-- ---- how many parts there are

-- 1 where the test passes
abbrev pub bit : Bool → ℕ
bit b = cond b 1 0

-- 1 where a piece stands at the front
abbrev pub starts : List (List ℕ) → ℕ
starts [] = 0
starts (p ∷ ps) = cond (is_empty p) 0 1

-- how many of them aren't empty
abbrev count : List (List ℕ) → ℕ
count xs = length (filter (λ p. not (is_empty p)) xs)

-- one more byte in front, which `t` tells to be a slash, or not
count_step : (t : Bool) (b : ℕ) (parts : List (List ℕ)) (e n : ℕ) → 2 * count parts + e ≤ n + starts parts → 2 * count (cond t ([] ∷ parts) (onto_first b parts)) + e ≤ n + 1 + starts (cond t ([] ∷ parts) (onto_first b parts))
count_step true b [] e n h = omega arith
count_step true b ([] ∷ ps) e n h = omega arith
count_step true b ((c ∷ cs) ∷ ps) e n h = omega arith
count_step false b [] e n h = omega arith
count_step false b ([] ∷ ps) e n h = omega arith
count_step false b ((c ∷ cs) ∷ ps) e n h = omega arith

count_last : (t : Bool) (b : ℕ) → 2 * count (cond t ([] ∷ [] ∷ []) (onto_first b ([] ∷ []))) + bit t ≤ 1 + starts (cond t ([] ∷ [] ∷ []) (onto_first b ([] ∷ [])))
count_last true b = omega arith
count_last false b = omega arith

-- between two pieces stands a slash
count_bound : (text : List ℕ) → 2 * count (between_slashes text) + bit (ends_with_slash text) ≤ length text + starts (between_slashes text)
count_bound [] = omega arith
count_bound (b ∷ []) = count_last (b == SLASH) b
count_bound (b ∷ c ∷ bs) =
    simp add-one at (count_step (b == SLASH) b (between_slashes (c ∷ bs)) (bit (ends_with_slash (c ∷ bs))) (length (c ∷ bs)) (count_bound (c ∷ bs)))

-- ---- what a text without fault is

fault_none : (e n l : Bool) → (if e then Some NotFound else (if n then Some Invalid else (if l then Some TooLong else None))) ≡ None → (n ≡ false) × (l ≡ false)
fault_none true n l h = cc
fault_none false true l h = cc
fault_none false false true h = cc
fault_none false false false h = (refl, refl)

pub is_short : (text : List ℕ) → text_fault text ≡ None → length text ≤ TEXT_MAX
is_short text h =
    let short = (fault_none (is_empty text) (list_any (λ b. b == NUL) text) (nat_lt TEXT_MAX (length text)) h).1 in
    grind (arith, nat_tests)

list_any-filter_step : (p : List ℕ → Bool) (t : Bool) (x : List ℕ) (xs : List (List ℕ)) → list_any p xs ≡ nat_lt 0 (length (filter p xs)) → (t || list_any p xs) ≡ nat_lt 0 (length (cond t (x ∷ filter p xs) (filter p xs)))
list_any-filter_step p true x xs h = grind (arith, nat_tests)
list_any-filter_step p false x xs h = h

list_any-filter : (p : List ℕ → Bool) (xs : List (List ℕ)) → list_any p xs ≡ nat_lt 0 (length (filter p xs))
list_any-filter p [] = refl
list_any-filter p (x ∷ xs) = list_any-filter_step p (p x) x xs (list_any-filter p xs)

pub has_final_slash_counted : (text : List ℕ) → has_final_slash text ≡ (nat_lt 0 (length (pieces text)) && ends_with_slash text)
has_final_slash_counted text = rw (list_any-filter (λ p. not (is_empty p)) (between_slashes text))

ends_in_cur_push : (ps : List Part) → ends_in_cur (ps ++ Cur ∷ []) ≡ true
ends_in_cur_push [] = refl
ends_in_cur_push (p ∷ []) = refl
ends_in_cur_push (p ∷ q ∷ ps) = ends_in_cur_push (q ∷ ps)

few_parts : (c e : Bool) (n m : ℕ) → 2 * n + bit e ≤ m + 1 → m ≤ TEXT_MAX → n + bit (c && e) ≤ PARTS_MAX
few_parts true true n m h k = omega arith
few_parts true false n m h k = omega arith
few_parts false true n m h k = omega arith
few_parts false false n m h k = omega arith

pub starts_bound : (xs : List (List ℕ)) → starts xs ≤ 1
starts_bound [] = omega arith
starts_bound ([] ∷ xs) = omega arith
starts_bound ((b ∷ bs) ∷ xs) = omega arith

-- a text without fault has few pieces, also with one more part for a slash at its end
pub pieces_few : (text : List ℕ) → text_fault text ≡ None → length (pieces text) + bit (has_final_slash text) ≤ PARTS_MAX
pieces_few text h =
    let low : 2 * length (pieces text) + bit (ends_with_slash text) ≤ length text + 1 =
    omega (arith, count_bound text, starts_bound (between_slashes text)) in
    few_parts (list_any (λ p. not (is_empty p)) (between_slashes text)) (ends_with_slash text) (length (pieces text)) (length text) low (is_short text h)

-- any text has at most a piece for two bytes
pub pieces_half : (text : List ℕ) → 2 * length (pieces text) ≤ length text + 1
pieces_half text = omega (arith, count_bound text, starts_bound (between_slashes text))

few_with : (e : Bool) (ps : List (List ℕ)) → length ps + bit e ≤ PARTS_MAX → length (map part_of ps ++ (if e then Cur ∷ [] else [])) ≤ PARTS_MAX
few_with true ps h = simp (length-append, length-map) (omega arith)
few_with false ps h = simp (length-append, length-map) (omega arith)

pub reading_few : (text : List ℕ) → text_fault text ≡ None → length (parts_of text) ≤ PARTS_MAX
reading_few text h = few_with (has_final_slash text) (pieces text) (pieces_few text h)

marked : (b : Bool) (ps : List Part) → b ≡ true → ends_in_cur (ps ++ (if b then Cur ∷ [] else [])) ≡ true
marked true ps h = ends_in_cur_push ps
marked false ps h = cc

-- what is read from a text has the form of a path
pub is_reading : (text : List ℕ) (a s : Bool) (ps : List Part) → text_fault text ≡ None → ps ≡ parts_of text → s ≡ has_final_slash text → IsReading (record { absolute = a; parts = ps; slash = s })
is_reading text a s ps h e f = record {
  few = rw e (reading_few text h);
  marked = λ t. rw e (marked (has_final_slash text) (map part_of (pieces text)) (sym f ∙ t));
}

-- ---- where the first slash is

some_in : (b : Bool) (at n : ℕ) → Some at ≡ cond b (Some n) None → at ≡ n
some_in true at n h = cc
some_in false at n h = absurd cc

pub some_at : (p : ℕ → Bool) (text : List ℕ) (at : ℕ) → Some at ≡ position p text → at ≡ position_or_len p text
some_at p text at h = some_in (ltb (position_or_len p text) (length text)) at (position_or_len p text) h

none_in : (b : Bool) (n : ℕ) → None ≡ cond b (Some n) None → b ≡ false
none_in true n h = absurd cc
none_in false n h = refl

pub none_at : (p : ℕ → Bool) (text : List ℕ) → None ≡ position p text → length text ≡ position_or_len p text
none_at p text h =
    omega (
      arith,
      ltb-false (position_or_len p text) (length text)
          (none_in (ltb (position_or_len p text) (length text)) (position_or_len p text) h),
      prefix_len-le-length (λ x. not (p x)) text,
    )
