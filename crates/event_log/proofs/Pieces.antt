-- Names that are read one by one, and written one by one.
use Rattle.std.proofs.Common.{◌≡◌, Bool, true, false, ℕ, zero, suc, ◌+◌, ◌-◌, ◌≤◌, ◌<◌, List, [], ◌∷◌, ◌++◌, length, take, drop, refl, sym, ap, ◌∙◌, arith, add-one}
use Rattle.std.specs.Prelude.{Some, None, slice_get, not, nat_eq}
use Rattle.std.specs.Cmp.Lexicographic.{pointwise, bytes_decides}
use Rattle.std.proofs.lemmas.List.{append_assoc, length-append, at_drop_more, take_all, take_more}
use Rattle.std.proofs.lemmas.List.Elements.{All-get_or}
use Rattle.std.proofs.lemmas.Option.{slice_get_within, get_or_from_slice_get}
use Rattle.path_text.specs.Name.{name_fault}
use Rattle.path_text.specs.Names.{AreNames}
use Rattle.event_log.specs.Shapes.{pieces_of, pieces_read, first_piece, after_piece}
use Rattle.std.proofs.lemmas.Bool.{not-false}

pub length_pieces : (count : ℕ) (bytes : List ℕ) → length (pieces_read count bytes) ≡ count
length_pieces zero bytes = refl
length_pieces (suc count) bytes = ap (λ n. suc n) (length_pieces count (after_piece bytes))

-- a list from a place on, by its first element and the rest
pub record CutAt {X : Type 0} (xs : List X) (at : ℕ) (x : X) (rest : List X) : Type 0 where
  pub front : take (suc at) xs ≡ take at xs ++ x ∷ []
  pub element : slice_get xs at ≡ Some x
  pub back : drop (suc at) xs ≡ rest

pub cut_at : {X : Type 0} (xs : List X) (at : ℕ) (x : X) (rest : List X) → drop at xs ≡ x ∷ rest → CutAt xs at x rest
cut_at [] zero x rest e = absurd (cc)
cut_at [] (suc at) x rest e = absurd (cc)
cut_at (y ∷ xs) zero x rest e = record { front = cc; element = cc; back = cc }
cut_at (y ∷ xs) (suc at) x rest e =
    let h = cut_at xs at x rest e in
    record { front = ap (λ ys. y ∷ ys) h.front; element = h.element; back = h.back }

-- the pieces that are left are the next one and those behind it
pub next_piece : (count at : ℕ) (bytes rest : List ℕ) → at < count → drop at (pieces_read count bytes) ≡ pieces_read (count - at) rest
    → CutAt (pieces_read count bytes) at (first_piece rest) (pieces_read (count - (at + 1)) (after_piece rest))
next_piece count at bytes rest within left =
    let more : count - at ≡ suc (count - (at + 1)) = omega arith in
    cut_at (pieces_read count bytes) at (first_piece rest) (pieces_read (count - (at + 1)) (after_piece rest))
    (left ∙ ap (λ n. pieces_read n rest) more)

pub piece_is_name : (count at : ℕ) (bytes rest : List ℕ) → at < count → drop at (pieces_read count bytes) ≡ pieces_read (count - at) rest
    → AreNames (pieces_read count bytes) → name_fault (first_piece rest) ≡ None
piece_is_name count at bytes rest within left names =
    let found = (next_piece count at bytes rest within left).element in
    let P : List ℕ → Type 0 = λ name. name_fault name ≡ None in
    rw (sym (get_or_from_slice_get (pieces_read count bytes) at (first_piece rest) [] found))
    (All-get_or P (pieces_read count bytes) at [] (omega (arith, within, length_pieces count bytes)) names)

pub pieces_taken : (count at : ℕ) (bytes rest : List ℕ) → at < count → drop at (pieces_read count bytes) ≡ pieces_read (count - at) rest
    → take (at + 1) (pieces_read count bytes) ≡ take at (pieces_read count bytes) ++ first_piece rest ∷ []
pieces_taken count at bytes rest within left = ap (λ n. take n (pieces_read count bytes)) (add-one at) ∙ (next_piece count at bytes rest within left).front

pub pieces_left : (count at : ℕ) (bytes rest : List ℕ) → at < count → drop at (pieces_read count bytes) ≡ pieces_read (count - at) rest
    → drop (at + 1) (pieces_read count bytes) ≡ pieces_read (count - (at + 1)) (after_piece rest)
pieces_left count at bytes rest within left = ap (λ n. drop n (pieces_read count bytes)) (add-one at) ∙ (next_piece count at bytes rest within left).back

pub all_pieces : (count at : ℕ) (bytes : List ℕ) → count ≤ at → take at (pieces_read count bytes) ≡ pieces_read count bytes
all_pieces count at bytes h = take_all at (pieces_read count bytes) (omega (arith, h, length_pieces count bytes))

-- the pieces from a place on are the name's there and those behind it
pub piece_at : (names : List (List ℕ)) (at : ℕ) (name : List ℕ) → slice_get names at ≡ Some name
    → pieces_of (drop at names) ≡ length name ∷ (name ++ pieces_of (drop (at + 1) names))
piece_at names at name found =
    at_drop_more pieces_of names at name (slice_get_within names at name found)
    ∙ ap (λ n. length n ∷ (n ++ pieces_of (drop (at + 1) names))) (get_or_from_slice_get names at name name found)

pub piece_len : (names : List (List ℕ)) (at : ℕ) (name : List ℕ) → slice_get names at ≡ Some name
    → length (pieces_of (drop at names)) ≡ length name + 1 + length (pieces_of (drop (at + 1) names))
piece_len names at name found =
    omega (arith, ap length (piece_at names at name found), length-append name (pieces_of (drop (at + 1) names)))

-- one more name is written
pub name_written : (names : List (List ℕ)) (at : ℕ) (name old before sized after : List ℕ) → slice_get names at ≡ Some name → sized ≡ before ++ length name ∷ [] → after ≡ sized ++ name
    → before ++ pieces_of (drop at names) ≡ old ++ pieces_of names → after ++ pieces_of (drop (at + 1) names) ≡ old ++ pieces_of names
name_written names at name old before sized after found is_sized is_after h =
    let rest = pieces_of (drop (at + 1) names) in
    ap (λ bs. bs ++ rest) (is_after ∙ ap (λ bs. bs ++ name) is_sized)
    ∙ append_assoc (before ++ length name ∷ []) name rest ∙ append_assoc before (length name ∷ []) (name ++ rest)
    ∙ ap (λ bs. before ++ bs) (sym (piece_at names at name found)) ∙ h

-- ---- names that are compared one by one

pub texts_apart : (differ : Bool) (xs ys : List ℕ) → differ ≡ not (pointwise nat_eq xs ys) → differ ≡ true → xs ≡ ys → ⊥
texts_apart differ xs ys e t q =
    let p : pointwise nat_eq xs ys ≡ true = (bytes_decides xs ys).1 q in
    let f : true ≡ false = sym t ∙ e ∙ ap not p in
    absurd (cc)

pub texts_same : (differ : Bool) (xs ys : List ℕ) → differ ≡ not (pointwise nat_eq xs ys) → differ ≡ false → xs ≡ ys
texts_same differ xs ys e f = (bytes_decides xs ys).0 (not-false (pointwise nat_eq xs ys) (sym e ∙ f))

pub counts_differ : (count k : ℕ) (bytes : List ℕ) (names : List (List ℕ)) → k ≡ length names → (k ≡ count → ⊥) → pieces_read count bytes ≡ names → ⊥
counts_differ count k bytes names is_count apart e = apart (is_count ∙ ap length (sym e) ∙ length_pieces count bytes)

-- a name at which the two differ
pub names_differ : (count at : ℕ) (bytes rest name : List ℕ) (names : List (List ℕ)) → at < count → drop at (pieces_read count bytes) ≡ pieces_read (count - at) rest
    → slice_get names at ≡ Some name → (first_piece rest ≡ name → ⊥) → pieces_read count bytes ≡ names → ⊥
names_differ count at bytes rest name names within left found apart e =
    let mine : slice_get names at ≡ Some (first_piece rest) = ap (λ ns. slice_get ns at) (sym e) ∙ (next_piece count at bytes rest within left).element in
    apart (cc)

-- one more name at which they agree
pub names_agree : (count at : ℕ) (bytes rest name : List ℕ) (names : List (List ℕ)) → at < count → drop at (pieces_read count bytes) ≡ pieces_read (count - at) rest
    → slice_get names at ≡ Some name → first_piece rest ≡ name → take at (pieces_read count bytes) ≡ take at names
    → take (at + 1) (pieces_read count bytes) ≡ take (at + 1) names
names_agree count at bytes rest name names within left found same before =
    pieces_taken count at bytes rest within left
    ∙ ap (λ ns. ns ++ first_piece rest ∷ []) before
    ∙ ap (λ n. take at names ++ n ∷ []) (same ∙ sym (get_or_from_slice_get names at name [] found))
    ∙ sym (take_more names at [] (slice_get_within names at name found))

pub names_all_agree : (count at k : ℕ) (bytes : List ℕ) (names : List (List ℕ)) → count ≤ at → k ≡ length names → k ≡ count
    → take at (pieces_read count bytes) ≡ take at names → pieces_read count bytes ≡ names
names_all_agree count at k bytes names past is_count same_count h =
    sym (all_pieces count at bytes past) ∙ h ∙ take_all at names (omega (arith, past, is_count, same_count))
