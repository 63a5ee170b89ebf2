-- A path has one division: a beginning of a text that doesn't end with a slash is known by its parts.
use Rattle.std.proofs.Common.{◌≡◌, ℕ, ◌+◌, ◌≤◌, Bool, true, false, ◌==◌, List, [], ◌∷◌, ◌++◌, length, map, take, drop, refl, sym, ap, subst, ◌∙◌, arith, cond, zero, suc, inl, inr}
use Rattle.std.specs.Prelude.{if◌then◌else◌, not, codes, ◌⊎◌, Option, Some, None, Ok, Result}
use Rattle.std.specs.List.{filter, onto_first}
use Rattle.std.specs.Cmp.Lexicographic.{bytes_decides}
use Rattle.std.proofs.lemmas.List.{append-nil, drop-take, take-append-drop, take-take}
use Rattle.path_text.specs.Name.{same_bytes}
use Rattle.path_text.specs.Text.{between_slashes, ends_with_slash, is_empty, part_of, pieces}
use Rattle.path_text.specs.declared.errno.Errno.{Errno}
use Rattle.path_text.specs.declared.name.TheConstants.{SLASH}
use Rattle.path_text.specs.declared.part.Part.{Part}
use Rattle.path_text.specs.declared.part.Part.TheVariants.{Cur, Up, Named}
use Rattle.path_text.specs.declared.path.Split.{Split}
use Rattle.kernel_walks.specs.Behind.{IsDirectoryText}
use Rattle.kernel_calls.specs.Entry.{EntryAt, IsAbove, IsDivision, IsFront}
use Rattle.kernel_calls.specs.Path.{text_in}
use Rattle.kernel_calls.proofs.NamedLemmas.{parts_are_pieces}

-- ---- how many bytes the parts of a text have

abbrev size : Part → ℕ
size Cur = 1
size Up = 2
size (Named name) = length name

abbrev sizes : List Part → ℕ
sizes [] = 0
sizes (p ∷ ps) = size p + sizes ps

abbrev plain : List ℕ → ℕ
plain [] = 0
plain (b ∷ bs) = cond (b == SLASH) (plain bs) (suc (plain bs))

size_by : (piece : List ℕ) (dot dots : Bool) → same_bytes piece (codes ".") ≡ dot → same_bytes piece (codes "..") ≡ dots
    → size (if dot then Cur else (if dots then Up else Named piece)) ≡ length piece
size_by piece true dots d e = sym (ap length ((bytes_decides piece (codes ".")).0 d))
size_by piece false true d e = sym (ap length ((bytes_decides piece (codes "..")).0 e))
size_by piece false false d e = refl

size_of : (piece : List ℕ) → size (part_of piece) ≡ length piece
size_of piece = size_by piece (same_bytes piece (codes ".")) (same_bytes piece (codes "..")) refl refl

abbrev total : List (List ℕ) → ℕ
total [] = 0
total (p ∷ ps) = length p + total ps

abbrev kept : List (List ℕ) → List (List ℕ)
kept ps = filter (λ p. not (is_empty p)) ps

sizes_kept : (ps : List (List ℕ)) → sizes (map part_of (kept ps)) ≡ total ps
sizes_kept [] = refl
sizes_kept ([] ∷ ps) = omega (arith, sizes_kept ps)
sizes_kept ((b ∷ bs) ∷ ps) =
    ap (λ n. n + sizes (map part_of (kept ps))) (size_of (b ∷ bs)) ∙ ap (λ n. length (b ∷ bs) + n) (sizes_kept ps)

total_first : (b : ℕ) (ps : List (List ℕ)) → total (onto_first b ps) ≡ suc (total ps)
total_first b [] = omega arith
total_first b (p ∷ ps) = omega arith

total_step : (t : Bool) (b n : ℕ) (ps : List (List ℕ)) → total ps ≡ n
    → total (cond t ([] ∷ ps) (onto_first b ps)) ≡ cond t n (suc n)
total_step true b n ps e = omega (arith, e)
total_step false b n ps e = total_first b ps ∙ ap (λ m. suc m) e

total_between : (text : List ℕ) → total (between_slashes text) ≡ plain text
total_between [] = refl
total_between (b ∷ bs) = total_step (b == SLASH) b (plain bs) (between_slashes bs) (total_between bs)

sizes_plain : (text : List ℕ) → sizes (map part_of (pieces text)) ≡ plain text
sizes_plain text = sizes_kept (between_slashes text) ∙ total_between text

-- ---- what is behind a beginning of the same parts

plain_step : (t : Bool) (m n : ℕ) → cond t (m + n) (suc (m + n)) ≡ cond t m (suc m) + n
plain_step true m n = refl
plain_step false m n = omega arith

plain_append : (xs ys : List ℕ) → plain (xs ++ ys) ≡ plain xs + plain ys
plain_append [] ys = omega arith
plain_append (x ∷ xs) ys =
    ap (λ n. cond (x == SLASH) n (suc n)) (plain_append xs ys) ∙ plain_step (x == SLASH) (plain xs) (plain ys)

is_slash : (t : Bool) (n : ℕ) → cond t n (suc n) ≡ 0 → (t ≡ true) × (n ≡ 0)
is_slash true n h = (refl, h)
is_slash false n h = absurd (omega (arith, h))

ends_slashes : (b : ℕ) (bs : List ℕ) → plain (b ∷ bs) ≡ 0 → ends_with_slash (b ∷ bs) ≡ true
ends_slashes b [] h = (is_slash (b == SLASH) 0 h).0
ends_slashes b (c ∷ bs) h = ends_slashes c bs (is_slash (b == SLASH) (plain (c ∷ bs)) h).1

ends_behind : (xs : List ℕ) (y : ℕ) (ys : List ℕ) → ends_with_slash (xs ++ y ∷ ys) ≡ ends_with_slash (y ∷ ys)
ends_behind [] y ys = refl
ends_behind (x ∷ []) y ys = refl
ends_behind (x ∷ z ∷ xs) y ys = ends_behind (z ∷ xs) y ys

no_more : (xs ys : List ℕ) → plain (xs ++ ys) ≡ plain xs → ends_with_slash (xs ++ ys) ≡ false → ys ≡ []
no_more xs [] h last = refl
no_more xs (y ∷ ys) h last =
    let none : plain (y ∷ ys) ≡ 0 = omega (arith, h, plain_append xs (y ∷ ys)) in
    let ends = sym (ends_slashes y ys none) ∙ sym (ends_behind xs y ys) ∙ last in cc (ends)

shorter : (text : List ℕ) (m n : ℕ) → m ≤ n → plain (take n text) ≡ plain (take m text)
    → ends_with_slash (take n text) ≡ false → take n text ≡ take m text
shorter text m n le same last =
    let more = drop m (take n text) in
    let whole : take n text ≡ take m text ++ more =
    sym (take-append-drop m (take n text)) ∙ ap (λ xs. xs ++ more) (take-take m n text le) in
    let none : more ≡ [] =
    no_more (take m text) more (sym (ap plain whole) ∙ same) (sym (ap ends_with_slash whole) ∙ last) in
    whole ∙ ap (λ ys. take m text ++ ys) none ∙ append-nil (take m text)

le_either : (m n : ℕ) → (m ≤ n) ⊎ (n ≤ m)
le_either zero n = inl (omega arith)
le_either (suc m) zero = inr (omega arith)
le_either (suc m) (suc n) = elim (le_either m n) [ inl h ↦ inl (omega (arith, h)) | inr h ↦ inr (omega (arith, h)) ]

abbrev IsPlain : List ℕ → Type 0
IsPlain text = (is_empty text ≡ false) × (ends_with_slash text ≡ false)

one_front : (text : List ℕ) (m n : ℕ) → ends_with_slash (take m text) ≡ false → ends_with_slash (take n text) ≡ false
    → map part_of (pieces (take m text)) ≡ map part_of (pieces (take n text)) → take m text ≡ take n text
one_front text m n one other parts =
    let same : plain (take m text) ≡ plain (take n text) =
    sym (sizes_plain (take m text)) ∙ ap sizes parts ∙ sizes_plain (take n text) in
    elim (le_either m n) [
      | inl le ↦ sym (shorter text m n le (sym same) other)
      | inr le ↦ shorter text n m le same one
    ]

-- ---- one division

same_split : (s t : Split) → ◌≡◌ {A = Result Split Errno} (Ok s) (Ok t) → s ≡ t
same_split s t e = cc (e)

taken : (slashed : List ℕ) (m n : ℕ) → take m (drop 1 slashed) ≡ take n (drop 1 slashed)
    → take (suc m) slashed ≡ take (suc n) slashed
taken [] m n e = refl
taken (b ∷ bs) m n e = ap (λ xs. b ∷ xs) e

taken_one : (slashed : List ℕ) (m n : ℕ) → take m (drop 1 slashed) ≡ take n (drop 1 slashed)
    → take (1 + m) slashed ≡ take (1 + n) slashed
taken_one slashed m n e =
    let one : 1 + m ≡ suc m = omega arith in
    let other : 1 + n ≡ suc n = omega arith in
    ap (λ k. take k slashed) one ∙ taken slashed m n e ∙ ap (λ k. take k slashed) (sym other)

parts_in : (split : Split) (text : List ℕ) → IsDirectoryText text split
    → map part_of (pieces text) ≡ split.dir.parts
parts_in split text is = sym (parts_are_pieces text) ∙ is.parts

text_of : (slashed front : List ℕ) (n : ℕ) → front ≡ take (1 + n) slashed → text_in front ≡ take n (text_in slashed)
text_of slashed front n e = ap (drop 1) e ∙ drop-take 1 n slashed

same_front : (slashed a b : List ℕ) (split : Split) → IsDirectoryText (text_in a) split
    → IsDirectoryText (text_in b) split → IsFront slashed (Some a) → IsFront slashed (Some b) → a ≡ b
same_front slashed a b split is are one other =
    let m = one.0.0 in
    let n = other.0.0 in
    let at = text_of slashed a m one.0.1 in
    let bt = text_of slashed b n other.0.1 in
    let parts : map part_of (pieces (take m (text_in slashed))) ≡ map part_of (pieces (take n (text_in slashed))) =
    ap (λ t. map part_of (pieces t)) (sym at) ∙ parts_in split (text_in a) is ∙ sym (parts_in split (text_in b) are)
    ∙ ap (λ t. map part_of (pieces t)) bt in
    let same = one_front (text_in slashed) m n (sym (ap ends_with_slash at) ∙ one.1)
    (sym (ap ends_with_slash bt) ∙ other.1) parts in
    one.0.1 ∙ taken_one slashed m n same ∙ sym other.0.1

same_above : (slashed : List ℕ) (a b : Option (List ℕ)) (split : Split) → IsAbove split a → IsAbove split b
    → IsFront slashed a → IsFront slashed b → a ≡ b
same_above slashed None None split is are one other = refl
same_above slashed None (Some b) split is are one other = absurd (are.0 is)
same_above slashed (Some a) None split is are one other = absurd (is.0 are)
same_above slashed (Some a) (Some b) split is are one other =
    ap (λ t. Some t) (same_front slashed a b split is.1 are.1 one other)

same_entry : (n m : EntryAt) → n.name ≡ m.name → n.above ≡ m.above → n ≡ m
same_entry n m name above =
    let one : n ≡ record n { name = m.name } = ap (λ x. record n { name = x }) name in
    let other : record n { name = m.name } ≡ m = ap (λ x. record m { above = x }) above in one ∙ other

-- a path has one division
pub one_division : (slashed : List ℕ) (takes : Bool) (n m : EntryAt) → IsDivision slashed takes n
    → IsDivision slashed takes m → n ≡ m
one_division slashed takes n m is are =
    let split = same_split is.divided.split are.divided.split (sym is.divided.entry.1 ∙ are.divided.entry.1) in
    let above = subst (λ s. IsAbove s m.above) (sym split) are.divided.above in
    same_entry n m (is.divided.name ∙ ap (λ s. s.name) split ∙ sym are.divided.name)
    (same_above slashed n.above m.above is.divided.split is.divided.above above is.front are.front)
