-- Each text has one spelling, and is read as that says.
use Rattle.std.proofs.Common.{◌≡◌, ℕ, ◌<◌, zero, suc, Bool, true, false, not, ◌==◌, ◌&&◌, cond, nat_lt, List, [], ◌∷◌, ◌++◌, length, map, replicate, refl, sym, ap, ◌∙◌, arith, ◌⊎◌, inl, inr}
use Rattle.std.specs.Prelude.{if◌then◌else◌}
use Rattle.std.specs.List.{list_any, filter, onto_first}
use Rattle.std.proofs.lemmas.Bool.{eqb-true}
use Rattle.std.proofs.lemmas.List.{append-nil}
use Rattle.std.proofs.lemmas.Bool.Decides.{nat_tests}
use Rattle.path_text.specs.declared.name.TheConstants.{SLASH}
use Rattle.path_text.specs.declared.part.Part.TheVariants.{Cur}
use Rattle.path_text.specs.Spelling.{Run, runs_text, IsNonSlash, AreSeparated, IsSpelling, ends_in_slashes, parts_spelled, reading_spelled}
use Rattle.path_text.specs.Text.{is_empty, between_slashes, pieces, part_of, begins_with_slash, ends_with_slash, has_final_slash, reading_of}
use Rattle.path_text.specs.Reading.{Reading}
use Rattle.path_text.proofs.TextLemmas.{or_false, has_final_slash_counted}

-- ---- the spelling of a text

-- the spelling with a byte put in front, which `t` tells to be a slash, or not
abbrev longer : Bool → ℕ → ℕ → List Run → ℕ × List Run
longer true b n rs = (suc n, rs)
longer false b zero [] = (0, record { piece = b ∷ []; slashes = 0 } ∷ [])
longer false b zero (r ∷ rs) = (0, record { piece = b ∷ r.piece; slashes = r.slashes } ∷ rs)
longer false b (suc n) rs = (0, record { piece = b ∷ []; slashes = suc n } ∷ rs)

abbrev spelling : List ℕ → ℕ × List Run
spelling [] = (0, [])
spelling (b ∷ bs) = longer (b == SLASH) b (spelling bs).0 (spelling bs).1

one_byte : (b : ℕ) → (b == SLASH) ≡ false → IsNonSlash (b ∷ [])
one_byte b e = record { some_byte = refl; no_slash = rw e }

one_more : (b : ℕ) (bs : List ℕ) → (b == SLASH) ≡ false → IsNonSlash bs → IsNonSlash (b ∷ bs)
one_more b bs e h = record { some_byte = refl; no_slash = rw e h.no_slash }

first_longer : (b : ℕ) (r : Run) (rs : List Run) → (b == SLASH) ≡ false → AreSeparated (r ∷ rs) → AreSeparated (record { piece = b ∷ r.piece; slashes = r.slashes } ∷ rs)
first_longer b r [] e h = one_more b r.piece e h
first_longer b r (q ∷ rs) e h = (one_more b r.piece e h.0, h.1, h.2)

first_alone : (b n : ℕ) (rs : List Run) → (b == SLASH) ≡ false → AreSeparated rs → AreSeparated (record { piece = b ∷ []; slashes = suc n } ∷ rs)
first_alone b n [] e h = one_byte b e
first_alone b n (q ∷ rs) e h = (one_byte b e, omega arith, h)

longer_spells : (t : Bool) (b : ℕ) (bs : List ℕ) (n : ℕ) (rs : List Run) → (b == SLASH) ≡ t → IsSpelling bs n rs → IsSpelling (b ∷ bs) (longer t b n rs).0 (longer t b n rs).1
longer_spells true b bs n rs e h = record { text_is = ap (λ c. c ∷ bs) (eqb-true b SLASH e) ∙ ap (λ cs. SLASH ∷ cs) h.text_is; separated = h.separated }
longer_spells false b bs zero [] e h = record { text_is = ap (λ cs. b ∷ cs) h.text_is; separated = one_byte b e }
longer_spells false b bs zero (r ∷ rs) e h = record { text_is = ap (λ cs. b ∷ cs) h.text_is; separated = first_longer b r rs e h.separated }
longer_spells false b bs (suc n) rs e h = record { text_is = ap (λ cs. b ∷ cs) h.text_is; separated = first_alone b n rs e h.separated }

spelling_spells : (text : List ℕ) → IsSpelling text (spelling text).0 (spelling text).1
spelling_spells [] = record { text_is = refl; separated = tt }
spelling_spells (b ∷ bs) = longer_spells (b == SLASH) b bs (spelling bs).0 (spelling bs).1 refl (spelling_spells bs)

-- each text is slashes and pieces
pub texts_spelled : (text : List ℕ) → (before : ℕ) × (runs : List Run) × IsSpelling text before runs
texts_spelled text = ((spelling text).0, (spelling text).1, spelling_spells text)

-- ---- there is no other

spelling_slashes : (n : ℕ) (bs : List ℕ) (rs : List Run) → spelling bs ≡ (0, rs) → spelling (replicate n SLASH ++ bs) ≡ (n, rs)
spelling_slashes zero bs rs e = e
spelling_slashes (suc n) bs rs e = ap (λ s. longer true SLASH s.0 s.1) (spelling_slashes n bs rs e)

-- a byte before slashes, or before nothing, is a piece of its own
longer_alone : (b n : ℕ) (rs : List Run) → (0 < n) ⊎ (rs ≡ []) → longer false b n rs ≡ (0, record { piece = b ∷ []; slashes = n } ∷ rs)
longer_alone b zero [] f = refl
longer_alone b zero (r ∷ rs) f = elim f [ inl p ↦ absurd (omega arith) | inr q ↦ cc ]
longer_alone b (suc n) rs f = refl

spelling_piece : (b : ℕ) (cs bs : List ℕ) (n : ℕ) (rs : List Run) → list_any (λ c. c == SLASH) (b ∷ cs) ≡ false → (0 < n) ⊎ (rs ≡ []) → spelling bs ≡ (n, rs) → spelling (b ∷ cs ++ bs) ≡ (0, record { piece = b ∷ cs; slashes = n } ∷ rs)
spelling_piece b [] bs n rs h f e =
    ap (λ s. longer (b == SLASH) b s.0 s.1) e ∙ ap (λ t. longer t b n rs) (or_false (b == SLASH) false h).0 ∙ longer_alone b n rs f
spelling_piece b (c ∷ cs) bs n rs h f e =
    let parts = or_false (b == SLASH) (list_any (λ d. d == SLASH) (c ∷ cs)) h in
    ap (λ s. longer (b == SLASH) b s.0 s.1) (spelling_piece c cs bs n rs parts.1 f e)
    ∙ ap (λ t. longer t b 0 (record { piece = c ∷ cs; slashes = n } ∷ rs)) parts.0

spelling_run : (piece bs : List ℕ) (n : ℕ) (rs : List Run) → IsNonSlash piece → (0 < n) ⊎ (rs ≡ []) → spelling bs ≡ (n, rs) → spelling (piece ++ bs) ≡ (0, record { piece = piece; slashes = n } ∷ rs)
spelling_run [] bs n rs h f e = let none = h.some_byte in cc
spelling_run (b ∷ cs) bs n rs h f e = spelling_piece b cs bs n rs h.no_slash f e

spelling_runs : (rs : List Run) → AreSeparated rs → spelling (runs_text rs) ≡ (0, rs)
spelling_runs [] h = refl
spelling_runs (r ∷ []) h = spelling_run r.piece (replicate r.slashes SLASH ++ []) r.slashes [] h (inr refl) (spelling_slashes r.slashes [] [] refl)
spelling_runs (r ∷ q ∷ rs) h =
    spelling_run r.piece (replicate r.slashes SLASH ++ runs_text (q ∷ rs)) r.slashes (q ∷ rs) h.0 (inl h.1)
    (spelling_slashes r.slashes (runs_text (q ∷ rs)) (q ∷ rs) (spelling_runs (q ∷ rs) h.2))

spelling_is : (text : List ℕ) (n : ℕ) (rs : List Run) → IsSpelling text n rs → spelling text ≡ (n, rs)
spelling_is text n rs h = ap spelling h.text_is ∙ spelling_slashes n (runs_text rs) rs (spelling_runs rs h.separated)

-- a text has one spelling
pub spellings_unique : (text : List ℕ) (before : ℕ) (runs : List Run) (others : ℕ) (more : List Run) → IsSpelling text before runs → IsSpelling text others more → (before ≡ others) × (runs ≡ more)
spellings_unique text n rs m qs h k =
    let same : (n, rs) ≡ (m, qs) = sym (spelling_is text n rs h) ∙ spelling_is text m qs k in
    (ap (λ s. s.0) same, ap (λ s. s.1) same)

-- ---- its pieces are those of the text

pub slices_piece : (piece bs first : List ℕ) (rest : List (List ℕ)) → list_any (λ c. c == SLASH) piece ≡ false → between_slashes bs ≡ first ∷ rest → between_slashes (piece ++ bs) ≡ (piece ++ first) ∷ rest
slices_piece [] bs first rest h e = e
slices_piece (b ∷ cs) bs first rest h e =
    let parts = or_false (b == SLASH) (list_any (λ d. d == SLASH) cs) h in
    let slices = between_slashes (cs ++ bs) in
    ap (λ t. cond t ([] ∷ slices) (onto_first b slices)) parts.0 ∙ ap (onto_first b) (slices_piece cs bs first rest parts.1 e)

pieces_slashes : (n : ℕ) (bs : List ℕ) → pieces (replicate n SLASH ++ bs) ≡ pieces bs
pieces_slashes zero bs = refl
pieces_slashes (suc n) bs = pieces_slashes n bs

abbrev kept : List (List ℕ) → List (List ℕ)
kept xs = filter (λ p. not (is_empty p)) xs

kept_first : (piece : List ℕ) (rest : List (List ℕ)) → is_empty piece ≡ false → kept ((piece ++ []) ∷ rest) ≡ piece ∷ kept rest
kept_first [] rest h = cc
kept_first (b ∷ bs) rest h = ap (λ p. p ∷ kept rest) (append-nil (b ∷ bs))

pieces_run : (piece : List ℕ) (n : ℕ) (bs : List ℕ) → IsNonSlash piece → (0 < n) ⊎ (bs ≡ []) → pieces (piece ++ (replicate n SLASH ++ bs)) ≡ piece ∷ pieces bs
pieces_run piece zero [] h f = ap kept (slices_piece piece [] [] [] h.no_slash refl) ∙ kept_first piece [] h.some_byte
pieces_run piece zero (b ∷ bs) h f = elim f [ inl p ↦ absurd (omega arith) | inr q ↦ cc ]
pieces_run piece (suc n) bs h f =
    let rest = replicate n SLASH ++ bs in
    ap kept (slices_piece piece (SLASH ∷ rest) [] (between_slashes rest) h.no_slash refl)
    ∙ kept_first piece (between_slashes rest) h.some_byte ∙ ap (λ ps. piece ∷ ps) (pieces_slashes n bs)

pieces_runs : (rs : List Run) → AreSeparated rs → pieces (runs_text rs) ≡ map (λ r. r.piece) rs
pieces_runs [] h = refl
pieces_runs (r ∷ []) h = pieces_run r.piece r.slashes [] h (inr refl)
pieces_runs (r ∷ q ∷ rs) h =
    pieces_run r.piece r.slashes (runs_text (q ∷ rs)) h.0 (inl h.1) ∙ ap (λ ps. r.piece ∷ ps) (pieces_runs (q ∷ rs) h.2)

-- ---- and so are its slashes at both ends

ends_append : (xs ys : List ℕ) → is_empty ys ≡ false → ends_with_slash (xs ++ ys) ≡ ends_with_slash ys
ends_append [] ys h = refl
ends_append (x ∷ []) [] h = cc
ends_append (x ∷ []) (y ∷ ys) h = refl
ends_append (x ∷ z ∷ xs) ys h = ends_append (z ∷ xs) ys h

ends_piece : (piece : List ℕ) → list_any (λ c. c == SLASH) piece ≡ false → ends_with_slash piece ≡ false
ends_piece [] h = refl
ends_piece (b ∷ []) h = (or_false (b == SLASH) false h).0
ends_piece (b ∷ c ∷ cs) h = ends_piece (c ∷ cs) (or_false (b == SLASH) (list_any (λ d. d == SLASH) (c ∷ cs)) h).1

ends_slashes : (n : ℕ) → ends_with_slash (replicate (suc n) SLASH ++ []) ≡ true
ends_slashes zero = refl
ends_slashes (suc n) = ends_slashes n

above_zero : (n : ℕ) → nat_lt 0 (suc n) ≡ true
above_zero n = grind (arith, nat_tests)

ends_run : (piece : List ℕ) (n : ℕ) → IsNonSlash piece → ends_with_slash (piece ++ (replicate n SLASH ++ [])) ≡ nat_lt 0 n
ends_run piece zero h = ap ends_with_slash (append-nil piece) ∙ ends_piece piece h.no_slash
ends_run piece (suc n) h = ends_append piece (replicate (suc n) SLASH ++ []) refl ∙ ends_slashes n ∙ sym (above_zero n)

pub some_before : (xs ys : List ℕ) → is_empty xs ≡ false → is_empty (xs ++ ys) ≡ false
some_before [] ys h = cc
some_before (x ∷ xs) ys h = refl

some_after : (xs ys : List ℕ) → is_empty ys ≡ false → is_empty (xs ++ ys) ≡ false
some_after [] ys h = h
some_after (x ∷ xs) ys h = refl

first_is : (r : Run) (rs : List Run) → AreSeparated (r ∷ rs) → IsNonSlash r.piece
first_is r [] h = h
first_is r (q ∷ rs) h = h.0

ends_runs : (r : Run) (rs : List Run) → AreSeparated (r ∷ rs) → ends_with_slash (runs_text (r ∷ rs)) ≡ ends_in_slashes (r ∷ rs)
ends_runs r [] h = ends_run r.piece r.slashes h
ends_runs r (q ∷ rs) h =
    let rest = runs_text (q ∷ rs) in
    let some : is_empty rest ≡ false = some_before q.piece (replicate q.slashes SLASH ++ runs_text rs) (first_is q rs h.2).some_byte in
    ends_append r.piece (replicate r.slashes SLASH ++ rest) (some_after (replicate r.slashes SLASH) rest some)
    ∙ ends_append (replicate r.slashes SLASH) rest some ∙ ends_runs q rs h.2

final_spelled : (n : ℕ) (rs : List Run) → AreSeparated rs → pieces (replicate n SLASH ++ runs_text rs) ≡ map (λ r. r.piece) rs → has_final_slash (replicate n SLASH ++ runs_text rs) ≡ ends_in_slashes rs
final_spelled n [] h e =
    let text = replicate n SLASH ++ [] in
    has_final_slash_counted text ∙ ap (λ ps. nat_lt 0 (length ps) && ends_with_slash text) e
final_spelled n (r ∷ rs) h e =
    let text = replicate n SLASH ++ runs_text (r ∷ rs) in
    has_final_slash_counted text ∙ ap (λ ps. nat_lt 0 (length ps) && ends_with_slash text) e
    ∙ ap (λ b. b && ends_with_slash text) (above_zero (length (map (λ q. q.piece) rs)))
    ∙ ends_append (replicate n SLASH) (runs_text (r ∷ rs)) (some_before r.piece (replicate r.slashes SLASH ++ runs_text rs) (first_is r rs h).some_byte)
    ∙ ends_runs r rs h

begins_piece : (piece ys : List ℕ) → IsNonSlash piece → begins_with_slash (piece ++ ys) ≡ false
begins_piece [] ys h = let none = h.some_byte in cc
begins_piece (b ∷ bs) ys h = (or_false (b == SLASH) (list_any (λ d. d == SLASH) bs) h.no_slash).0

begins_spelled : (n : ℕ) (rs : List Run) → AreSeparated rs → begins_with_slash (replicate n SLASH ++ runs_text rs) ≡ nat_lt 0 n
begins_spelled zero [] h = refl
begins_spelled zero (r ∷ rs) h = begins_piece r.piece (replicate r.slashes SLASH ++ runs_text rs) (first_is r rs h)
begins_spelled (suc n) rs h = sym (above_zero n)

-- ---- so it is read as it says

parts_are : (rs : List Run) → map part_of (map (λ r. r.piece) rs) ++ (if ends_in_slashes rs then Cur ∷ [] else []) ≡ parts_spelled rs
parts_are [] = refl
parts_are (r ∷ []) = refl
parts_are (r ∷ q ∷ rs) = ap (λ ps. part_of r.piece ∷ ps) (parts_are (q ∷ rs))

abbrev made : Bool → List (List ℕ) → Bool → Reading
made a ps s = record { absolute = a; parts = map part_of ps ++ (if s then Cur ∷ [] else []); slash = s }

reading_is : (n : ℕ) (rs : List Run) → AreSeparated rs → reading_of (replicate n SLASH ++ runs_text rs) ≡ reading_spelled n rs
reading_is n rs h =
    let text = replicate n SLASH ++ runs_text rs in
    let are : pieces text ≡ map (λ r. r.piece) rs = pieces_slashes n (runs_text rs) ∙ pieces_runs rs h in
    ap (λ a. made a (pieces text) (has_final_slash text)) (begins_spelled n rs h)
    ∙ ap (λ ps. made (nat_lt 0 n) ps (has_final_slash text)) are
    ∙ ap (λ s. made (nat_lt 0 n) (map (λ r. r.piece) rs) s) (final_spelled n rs h are)
    ∙ ap (λ ps. record { absolute = nat_lt 0 n; parts = ps; slash = ends_in_slashes rs }) (parts_are rs)

-- a text is read as its spelling says
pub spellings_read : (text : List ℕ) (before : ℕ) (runs : List Run) → IsSpelling text before runs → reading_of text ≡ reading_spelled before runs
spellings_read text n rs h = ap reading_of h.text_is ∙ reading_is n rs h.separated
