-- Pieces cut off a text from its end, and the places where parts lie in a buffer.
use Rattle.std.proofs.Common.{◌≡◌, ◌≢◌, ℕ, ◌+◌, ◌-◌, ◌≤◌, ◌<◌, zero, suc, Bool, true, false, not, ◌==◌, ◌||◌, cond, List, [], ◌∷◌, ◌++◌, length, get_or, map, reverse, take, drop, refl, sym, ap, ◌∙◌, arith}
use Rattle.std.specs.Prelude.{Some, Result, Ok, Err, IsOk, is_ok, slice_get, if◌then◌else◌}
use Rattle.std.specs.List.{list_any, filter, onto_first}
use Rattle.std.proofs.lemmas.Bool.{eqb-true, or_right}
use Rattle.std.proofs.lemmas.Bool.Decides.{nat_tests}
use Rattle.std.proofs.Math.Seq.{drop-append_seam, take-append_seam}
use Rattle.std.proofs.lemmas.List.{append-nil, length-append, length-drop, map-append, reverse-append, drop-drop, drop_at, get_or-drop, take_all, take_more_same, append_assoc}
use Rattle.std.proofs.lemmas.List.Elements.{All-head, All-tail, All-push, filter-append}
use Rattle.std.proofs.lemmas.List.Folds.{list_any-append}
use Rattle.std.proofs.lemmas.Option.{slice_get_within, get_or_from_slice_get}
use Rattle.std.proofs.lemmas.List.Splits.{length-slice_split}
use Rattle.path_text.specs.declared.name.TheConstants.{SLASH}
use Rattle.path_text.specs.declared.part.Part.{Part}
use Rattle.path_text.specs.declared.part.Part.TheVariants.{Cur}
use Rattle.path_text.specs.declared.places.Span.{Span}
use Rattle.path_text.specs.Name.{NUL}
use Rattle.path_text.specs.Parts.{bytes_at, is_said, part_said, parts_at, IsPlace, ArePlaces, BeginsWith, IsSeparated, IsBeforePiece}
use Rattle.path_text.specs.Text.{is_empty, between_slashes, pieces, is_piece, part_of, parts_of, ends_with_slash, has_final_slash}
use Rattle.path_text.proofs.NameBuffers.{cut_of_more}
use Rattle.path_text.proofs.SpellingLemmas.{slices_piece}
use Rattle.path_text.proofs.TextLemmas.{or_false, is_piece_of}

-- ---- a text taken apart at its end

pub ends_with_last : (bs : List ℕ) (b : ℕ) → ends_with_slash (bs ++ b ∷ []) ≡ (b == SLASH)
ends_with_last [] b = refl
ends_with_last (c ∷ []) b = refl
ends_with_last (c ∷ d ∷ bs) b = ends_with_last (d ∷ bs) b

-- a text whose last byte is a slash keeps apart what comes after it
pub separated_after : (text bs : List ℕ) (b : ℕ) → text ≡ bs ++ b ∷ [] → (b == SLASH) ≡ true → IsSeparated text
separated_after text [] b h k = ap (λ t. is_empty t || ends_with_slash t) h ∙ k
separated_after text (c ∷ bs) b h k = ap (λ t. is_empty t || ends_with_slash t) h ∙ (ends_with_last (c ∷ bs) b ∙ k)

onto_first-append : (b : ℕ) (ps qs : List (List ℕ)) → 0 < length ps → onto_first b (ps ++ qs) ≡ onto_first b ps ++ qs
onto_first-append b [] qs h = absurd (omega (arith, h))
onto_first-append b (p ∷ ps) qs h = refl

slices_step : (t : Bool) (b : ℕ) (ps qs : List (List ℕ)) → 0 < length ps → cond t ([] ∷ (ps ++ qs)) (onto_first b (ps ++ qs)) ≡ cond t ([] ∷ ps) (onto_first b ps) ++ qs
slices_step true b ps qs h = refl
slices_step false b ps qs h = onto_first-append b ps qs h

pub slices_joined : (xs ys : List ℕ) → between_slashes (xs ++ SLASH ∷ ys) ≡ between_slashes xs ++ between_slashes ys
slices_joined [] ys = refl
slices_joined (b ∷ xs) ys =
    ap (λ ps. cond (b == SLASH) ([] ∷ ps) (onto_first b ps)) (slices_joined xs ys)
    ∙ slices_step (b == SLASH) b (between_slashes xs) (between_slashes ys) (omega (arith, length-slice_split (λ c. c == SLASH) xs))

pub pieces_joined : (xs ys : List ℕ) → pieces (xs ++ SLASH ∷ ys) ≡ pieces xs ++ pieces ys
pieces_joined xs ys =
    ap (filter (λ p. not (is_empty p))) (slices_joined xs ys) ∙ filter-append (λ p. not (is_empty p)) (between_slashes xs) (between_slashes ys)

-- a slash at the end gives no piece
pub pieces_slash : (xs : List ℕ) → pieces (xs ++ SLASH ∷ []) ≡ pieces xs
pieces_slash xs = pieces_joined xs [] ∙ append-nil (pieces xs)

kept_alone : (piece : List ℕ) → is_empty piece ≡ false → filter (λ p. not (is_empty p)) ((piece ++ []) ∷ []) ≡ piece ∷ []
kept_alone [] h = cc
kept_alone (b ∷ bs) h = ap (λ p. p ∷ []) (append-nil (b ∷ bs))

pieces_alone : (piece : List ℕ) → is_empty piece ≡ false → list_any (λ c. c == SLASH) piece ≡ false → pieces piece ≡ piece ∷ []
pieces_alone piece some h =
    ap pieces (sym (append-nil piece)) ∙ ap (filter (λ p. not (is_empty p))) (slices_piece piece [] [] [] h refl) ∙ kept_alone piece some

-- a text that ends in a slash has its last byte there
slash_last : (xs : List ℕ) → ends_with_slash xs ≡ true → (ys : List ℕ) × (xs ≡ ys ++ SLASH ∷ [])
slash_last [] h = cc
slash_last (b ∷ []) h = ([], ap (λ c. c ∷ []) (eqb-true b SLASH h))
slash_last (b ∷ c ∷ xs) h = let r = slash_last (c ∷ xs) h in (b ∷ r.0, ap (λ ys. b ∷ ys) r.1)

-- a piece at the end, after a text that keeps it apart
pub pieces_last : (xs piece : List ℕ) → IsSeparated xs → is_empty piece ≡ false → list_any (λ c. c == SLASH) piece ≡ false → pieces (xs ++ piece) ≡ pieces xs ++ piece ∷ []
pieces_last [] piece apart some h = pieces_alone piece some h
pieces_last (b ∷ bs) piece apart some h =
    let cut = slash_last (b ∷ bs) apart in
    ap (λ zs. pieces (zs ++ piece)) cut.1 ∙ ap pieces (append_assoc cut.0 (SLASH ∷ []) piece) ∙ pieces_joined cut.0 piece
    ∙ ap (λ ps. pieces cut.0 ++ ps) (pieces_alone piece some h)
    ∙ ap (λ ps. ps ++ piece ∷ []) (sym (pieces_slash cut.0) ∙ ap pieces (sym cut.1))

-- one byte less to come before the piece
pub piece_longer : (text rest before piece : List ℕ) (byte : ℕ) → text ≡ rest ++ piece → rest ≡ before ++ byte ∷ [] → text ≡ before ++ byte ∷ piece
piece_longer text rest before piece byte h k = h ∙ ap (λ zs. zs ++ piece) k ∙ append_assoc before (byte ∷ []) piece

-- a text that ends in no slash ends in a piece, where it has a byte
pub piece_some : (text rest piece : List ℕ) → text ≢ [] → ends_with_slash text ≡ false → text ≡ rest ++ piece → IsSeparated rest → is_empty piece ≡ false
piece_some text rest (b ∷ bs) some last h apart = refl
piece_some text [] [] some last h apart = absurd (some h)
piece_some text (c ∷ cs) [] some last h apart =
    let same : text ≡ c ∷ cs = h ∙ append-nil (c ∷ cs) in
    absurd (cc)

-- ---- the loops over a text from its end

pub begins_less : (text rest before : List ℕ) (byte : ℕ) → BeginsWith text rest → rest ≡ before ++ byte ∷ [] → BeginsWith text before
begins_less text rest before byte h k = (byte ∷ h.0, piece_longer text rest before h.0 byte h.1 k)

pub begins_both : (text rest first : List ℕ) → BeginsWith text rest → BeginsWith rest first → BeginsWith text first
begins_both text rest first h k = (k.0 ++ h.0, h.1 ∙ ap (λ zs. zs ++ h.0) k.1 ∙ append_assoc first k.0 h.0)

pub begins_le : (text first : List ℕ) → BeginsWith text first → length first ≤ length text
begins_le text first h = omega (arith, ap length h.1, length-append first h.0)

pub slash_off : (text rest before : List ℕ) → rest ≡ before ++ SLASH ∷ [] → pieces rest ≡ pieces text → pieces before ≡ pieces text
slash_off text rest before k h = sym (pieces_slash before) ∙ ap pieces (sym k) ∙ h

pub one_less : (rest before : List ℕ) (byte : ℕ) → rest ≡ before ++ byte ∷ [] → length before < length rest
one_less rest before byte k = omega (arith, ap length k, length-append before (byte ∷ []))

-- the rest, and a piece that begins after it
abbrev pub IsCut : List ℕ → List ℕ → Type 0
IsCut text rest = (piece : List ℕ) × (text ≡ rest ++ piece) × (list_any (λ c. c == SLASH) piece ≡ false)

pub cut_less : (text rest before : List ℕ) (byte : ℕ) → IsCut text rest → rest ≡ before ++ byte ∷ [] → (byte == SLASH) ≡ false → IsCut text before
cut_less text rest before byte h k e = (byte ∷ h.0, piece_longer text rest before h.0 byte h.1 k, rw e h.2)

pub cut_done : (text rest : List ℕ) → text ≢ [] → ends_with_slash text ≡ false → IsCut text rest → IsSeparated rest → IsBeforePiece text rest
cut_done text rest some last h apart = record {
  piece = h.0;
  cut = h.1;
  apart = apart;
  some = piece_some text rest h.0 some last h.1 apart;
  plain = h.2;
  pieces = ap pieces h.1 ∙ pieces_last rest h.0 apart (piece_some text rest h.0 some last h.1 apart) h.2;
}

-- ---- the parts at places

-- one more place
pub parts_push : (buffer : List ℕ) (spans : List Span) (span : Span) → parts_at buffer (spans ++ span ∷ []) ≡ part_said (bytes_at buffer span) ∷ parts_at buffer spans
parts_push buffer spans span =
    let said : Span → Part = λ s. part_said (bytes_at buffer s) in
    ap reverse (map-append said spans (span ∷ [])) ∙ reverse-append (map said spans) (said span ∷ [])

-- ---- one more piece

-- the bytes at the place of the piece that ends a text
span_bytes : (buffer : List ℕ) (low : ℕ) (before piece more : List ℕ) (span : Span) → drop low buffer ≡ before ++ (piece ++ more) → span.start ≡ low + length before → span.end ≡ low + length before + length piece → bytes_at buffer span ≡ piece
span_bytes buffer low before piece more span h s e =
    let size : span.end - span.start ≡ length piece = omega (arith, s, e) in
    let from : drop span.start buffer ≡ piece ++ more =
    ap (λ n. drop n buffer) (omega (arith, s)) ∙ sym (drop-drop (length before) low buffer) ∙ ap (drop (length before)) h ∙ drop-append_seam before (piece ++ more) in
    ap (λ n. take n (drop span.start buffer)) size ∙ ap (take (length piece)) from ∙ take-append_seam piece more

get_last : {X : Type 0} (xs : List X) (x d : X) → get_or (xs ++ x ∷ []) (length xs) d ≡ x
get_last [] x d = refl
get_last (y ∷ xs) x d = get_last xs x d

said_piece : (piece : List ℕ) → is_piece piece ≡ true → part_said piece ≡ part_of piece
said_piece [] h = cc
said_piece (b ∷ bs) h = refl

-- a text without NUL whose last piece this is
abbrev pub EndsIn : List ℕ → List ℕ → List ℕ → Type 0
EndsIn text before piece = (text ≡ before ++ piece) × (pieces text ≡ pieces before ++ piece ∷ [])

piece_is : (text before piece more all : List ℕ) → EndsIn text before piece → all ≡ text ++ more → list_any (λ b. b == NUL) all ≡ false → is_piece piece ≡ true
piece_is text before piece more all h e clean =
    let free = or_false _ _ (sym (list_any-append (λ b. b == NUL) text more) ∙ ap (list_any (λ b. b == NUL)) (sym e) ∙ clean) in
    let at : get_or (pieces text) (length (pieces before)) piece ≡ piece = ap (λ ps. get_or ps (length (pieces before)) piece) h.1 ∙ get_last (pieces before) piece piece in
    ap is_piece (sym at) ∙ is_piece_of text free.0 (length (pieces before)) piece (omega (arith, ap length h.1, length-append (pieces before) (piece ∷ [])))

-- the place of a text's last piece
pub record IsPlaceOfLast (buffer : List ℕ) (low : ℕ) (text before : List ℕ) (span : Span) : Type 0 where
  pub low_within : low ≤ length buffer
  pub beginning : BeginsWith (drop low buffer) text
  pub clean : list_any (λ b. b == NUL) (drop low buffer) ≡ false
  pub cut : (piece : List ℕ) × EndsIn text before piece
  pub start : span.start ≡ low + length before
  pub end : span.end ≡ low + length text

bytes_of_last : (buffer : List ℕ) (low : ℕ) (text before : List ℕ) (span : Span) → (h : IsPlaceOfLast buffer low text before span) → bytes_at buffer span ≡ h.cut.0
bytes_of_last buffer low text before span h =
    span_bytes buffer low before h.cut.0 h.beginning.0 span (h.beginning.1 ∙ ap (λ zs. zs ++ h.beginning.0) h.cut.1.0 ∙ append_assoc before h.cut.0 h.beginning.0) h.start
    (omega (arith, h.end, ap length h.cut.1.0, length-append before h.cut.0))

piece_of_last : (buffer : List ℕ) (low : ℕ) (text before : List ℕ) (span : Span) → (h : IsPlaceOfLast buffer low text before span) → is_piece h.cut.0 ≡ true
piece_of_last buffer low text before span h = piece_is text before h.cut.0 h.beginning.0 (drop low buffer) h.cut.1 h.beginning.1 h.clean

place_of_last : (buffer : List ℕ) (low : ℕ) (text before : List ℕ) (span : Span) → IsPlaceOfLast buffer low text before span → IsPlace buffer span
place_of_last buffer low text before span h =
    let size = length-append before h.cut.0 in record {
      ordered = omega (arith, h.start, h.end, ap length h.cut.1.0, size);
      within = omega (arith, h.end, h.low_within, begins_le (drop low buffer) text h.beginning, length-drop low buffer);
      said = rw (bytes_of_last buffer low text before span h) (or_right (is_empty h.cut.0) (is_piece h.cut.0) (piece_of_last buffer low text before span h));
    }

pub places_pushed : (buffer : List ℕ) (low : ℕ) (text before : List ℕ) (span : Span) (old new : List Span) → IsPlaceOfLast buffer low text before span → new ≡ old ++ span ∷ [] → ArePlaces buffer old → ArePlaces buffer new
places_pushed buffer low text before span old new h e places = rw e (All-push (λ s. IsPlace buffer s) old span places (place_of_last buffer low text before span h))

pub parts_pushed : (buffer : List ℕ) (low : ℕ) (text before : List ℕ) (span : Span) (old new : List Span) → IsPlaceOfLast buffer low text before span → new ≡ old ++ span ∷ [] → map part_of (pieces before) ++ parts_at buffer new ≡ map part_of (pieces text) ++ parts_at buffer old
parts_pushed buffer low text before span old new h e =
    let first = map part_of (pieces before) in
    let said : part_said (bytes_at buffer span) ≡ part_of h.cut.0 = ap part_said (bytes_of_last buffer low text before span h) ∙ said_piece h.cut.0 (piece_of_last buffer low text before span h) in
    ap (λ spans. first ++ parts_at buffer spans) e ∙ ap (λ parts. first ++ parts) (parts_push buffer old span ∙ ap (λ part. part ∷ parts_at buffer old) said)
    ∙ sym (append_assoc first (part_of h.cut.0 ∷ []) (parts_at buffer old))
    ∙ ap (λ parts. parts ++ parts_at buffer old) (sym (ap (map part_of) h.cut.1.1 ∙ map-append part_of (pieces before) (h.cut.0 ∷ [])))

-- nothing is left
pub parts_done : (rest : List ℕ) (parts all : List Part) (tested : Bool) → tested ≡ (length rest == 0) → tested ≡ true → map part_of (pieces rest) ++ parts ≡ all → parts ≡ all
parts_done [] parts all tested t e h = h
parts_done (b ∷ bs) parts all tested t e h = absurd (grind (arith, nat_tests))

pub fewer_left : (left ended rest : ℕ) → (0 < left → left < ended) → ended ≤ rest → 0 < rest → left < rest
fewer_left zero ended rest h k l = l
fewer_left (suc left) ended rest h k l = omega (arith, h (omega arith), k)

pub rest_whole : (buffer : List ℕ) (low : ℕ) → take (length buffer - low) (drop low buffer) ≡ drop low buffer
rest_whole buffer low = take_all (length buffer - low) (drop low buffer) (omega (arith, length-drop low buffer))

-- ---- a text put before all

place_more : (buffer more : List ℕ) (span : Span) → IsPlace buffer span → IsPlace (buffer ++ more) span
place_more buffer more span h = record {
  ordered = h.ordered;
  within = omega (arith, h.within, length-append buffer more);
  said = rw (cut_of_more span.start span.end buffer more h.within h.ordered) h.said;
}

places_more : (buffer more : List ℕ) (spans : List Span) → ArePlaces buffer spans → ArePlaces (buffer ++ more) spans
places_more buffer more spans h = λ k d l. place_more buffer more _ (h k d l)

said_more : (buffer more : List ℕ) (spans : List Span) → ArePlaces buffer spans → map (λ s. part_said (bytes_at (buffer ++ more) s)) spans ≡ map (λ s. part_said (bytes_at buffer s)) spans
said_more buffer more [] h = refl
said_more buffer more (span ∷ spans) h =
    let place = All-head (λ s. IsPlace buffer s) span spans h in
    ap (λ bytes. part_said bytes ∷ map (λ s. part_said (bytes_at (buffer ++ more) s)) spans) (cut_of_more span.start span.end buffer more place.within place.ordered)
    ∙ ap (λ parts. part_said (bytes_at buffer span) ∷ parts) (said_more buffer more spans (All-tail (λ s. IsPlace buffer s) span spans h))

no_bytes : (buffer : List ℕ) (end : ℕ) → take (end - end) (drop end buffer) ≡ []
no_bytes buffer end = let none : end - end ≡ 0 = omega arith in ap (λ n. take n (drop end buffer)) none

-- an empty place, where there is one more
abbrev pub slash_span : Bool → ℕ → List Span
slash_span slash end = if slash then record { start = end; end = end } ∷ [] else []

parts_slash : (slash : Bool) (buffer : List ℕ) (end : ℕ) (spans : List Span) → parts_at buffer (spans ++ slash_span slash end) ≡ (if slash then Cur ∷ [] else []) ++ parts_at buffer spans
parts_slash true buffer end spans = parts_push buffer spans (record { start = end; end = end }) ∙ ap (λ bytes. part_said bytes ∷ parts_at buffer spans) (no_bytes buffer end)
parts_slash false buffer end spans = ap (parts_at buffer) (append-nil spans)

pub places_slash : (slash : Bool) (buffer : List ℕ) (end : ℕ) (spans : List Span) → end ≡ length buffer → ArePlaces buffer spans → ArePlaces buffer (spans ++ slash_span slash end)
places_slash true buffer end spans e h =
    All-push (λ s. IsPlace buffer s) spans (record { start = end; end = end }) h (record { ordered = omega arith; within = omega (arith, e); said = ap is_said (no_bytes buffer end) })
places_slash false buffer end spans e h = rw (append-nil spans) h

pub places_put : (bytes text buffer : List ℕ) (slash : Bool) (end : ℕ) (old spans : List Span) → buffer ≡ bytes ++ text → end ≡ length buffer → spans ≡ old ++ slash_span slash end → ArePlaces bytes old → ArePlaces buffer spans
places_put bytes text buffer slash end old spans b e s h =
    rw (s, b) (places_slash slash (bytes ++ text) end old (e ∙ ap length b) (places_more bytes text old h))

-- what is so where a call succeeds, is so
pub on_ok : {X E : Type 0} (result : Result X E) (items all others : List ℕ) → IsOk result → items ≡ (if is_ok result then all else others) → items ≡ all
on_ok (Ok x) items all others h k = k
on_ok (Err e) items all others h k = cc

pub text_dropped : (bytes text buffer : List ℕ) (low : ℕ) → buffer ≡ bytes ++ text → low ≡ length bytes → drop low buffer ≡ text
text_dropped bytes text buffer low b l = ap (drop low) b ∙ drop_at bytes text low (sym l)

pub parts_put : (bytes text buffer : List ℕ) (slash : Bool) (end low : ℕ) (old spans new : List Span) → buffer ≡ bytes ++ text → low ≡ length bytes → spans ≡ old ++ slash_span slash end → slash ≡ has_final_slash text → ArePlaces bytes old
    → parts_at buffer new ≡ map part_of (pieces (drop low buffer)) ++ parts_at buffer spans → parts_at buffer new ≡ parts_of text ++ parts_at bytes old
parts_put bytes text buffer slash end low old spans new b l s f places h =
    let last : List Part = if slash then Cur ∷ [] else [] in
    let before : parts_at buffer spans ≡ last ++ parts_at bytes old =
    ap (parts_at buffer) s ∙ parts_slash slash buffer end old ∙ ap (λ bs. last ++ parts_at bs old) b ∙ ap (λ parts. last ++ reverse parts) (said_more bytes text old places) in
    h ∙ ap (λ bs. map part_of (pieces bs) ++ parts_at buffer spans) (text_dropped bytes text buffer low b l)
    ∙ ap (λ parts. map part_of (pieces text) ++ parts) before
    ∙ sym (append_assoc (map part_of (pieces text)) last (parts_at bytes old))
    ∙ ap (λ t. (map part_of (pieces text) ++ (if t then Cur ∷ [] else [])) ++ parts_at bytes old) f

-- ---- two lists from some place on

pub one_more_same : {X : Type 0} (xs ys : List X) (i j at : ℕ) (x y : X) → slice_get xs (i + at) ≡ Some x → slice_get ys (j + at) ≡ Some y → x ≡ y → take at (drop i xs) ≡ take at (drop j ys) → take (at + 1) (drop i xs) ≡ take (at + 1) (drop j ys)
one_more_same xs ys i j at x y h k same so_far =
    let l = slice_get_within xs (i + at) x h in
    let m = slice_get_within ys (j + at) y k in
    take_more_same (drop i xs) (drop j ys) at x (omega (arith, l, length-drop i xs)) (omega (arith, m, length-drop j ys)) so_far
    (get_or-drop i xs at x ∙ get_or_from_slice_get xs (i + at) x x h ∙ same ∙ sym (get_or_from_slice_get ys (j + at) y x k) ∙ sym (get_or-drop j ys at x))

pub one_differs : {X : Type 0} (xs ys : List X) (i j at : ℕ) (x y : X) → slice_get xs (i + at) ≡ Some x → slice_get ys (j + at) ≡ Some y → drop i xs ≡ drop j ys → x ≡ y
one_differs xs ys i j at x y h k same =
    sym (get_or-drop i xs at x ∙ get_or_from_slice_get xs (i + at) x x h) ∙ ap (λ zs. get_or zs at x) same ∙ get_or-drop j ys at x ∙ get_or_from_slice_get ys (j + at) y x k

pub lengths_differ : {X : Type 0} (xs ys : List X) (i j : ℕ) → drop i xs ≡ drop j ys → length xs - i ≡ length ys - j
lengths_differ xs ys i j same = sym (length-drop i xs) ∙ ap length same ∙ length-drop j ys

pub all_same : {X : Type 0} (xs ys : List X) (i j at : ℕ) → length xs - i ≤ at → length xs - i ≡ length ys - j → take at (drop i xs) ≡ take at (drop j ys) → drop i xs ≡ drop j ys
all_same xs ys i j at h e so_far =
    sym (take_all at (drop i xs) (omega (arith, h, length-drop i xs))) ∙ so_far ∙ take_all at (drop j ys) (omega (arith, h, e, length-drop j ys))
