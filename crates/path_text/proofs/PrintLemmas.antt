-- Names that are printed as a path are read back from it.
use Rattle.std.proofs.Common.{◌≡◌, ℕ, Bool, true, false, not, ◌==◌, ◌&&◌, ◌||◌, nat_lt, List, [], ◌∷◌, ◌++◌, length, map, drop, ◌+◌, refl, sym, ap, ◌∙◌, arith}
use Rattle.std.specs.Prelude.{Some, None, All, slice_get, is_none, if◌then◌else◌, codes}
use Rattle.std.specs.List.{list_any, list_all}
use Rattle.std.proofs.lemmas.List.{append-nil, append_assoc, at_drop_more}
use Rattle.std.proofs.lemmas.Option.{slice_get_within, get_or_from_slice_get}
use Rattle.std.proofs.lemmas.List.Elements.{All-head, All-tail}
use Rattle.std.proofs.lemmas.List.Folds.{list_any-append}
use Rattle.path_text.specs.declared.errno.Errno.TheVariants.{NotFound, Invalid, TooLong}
use Rattle.path_text.specs.declared.name.TheConstants.{SLASH, NAME_MAX}
use Rattle.path_text.specs.declared.part.Part.TheVariants.{Cur, Up, Named}
use Rattle.path_text.specs.declared.path.TheConstants.{TEXT_MAX}
use Rattle.path_text.specs.Name.{NUL, same_bytes, is_component, name_fault, is_name}
use Rattle.path_text.specs.Names.{AreNames}
use Rattle.path_text.specs.Print.{after_slashes, printed, names_between, names_read}
use Rattle.path_text.specs.Spelling.{Run, runs_text, IsNonSlash, AreSeparated, IsSpelling, ends_in_slashes, parts_spelled}
use Rattle.path_text.specs.Text.{is_empty, between_slashes, part_of, reading_of, text_fault}
use Rattle.path_text.proofs.SpellingLemmas.{spellings_read, slices_piece, some_before}
use Rattle.path_text.proofs.TextLemmas.{and_true}
use Rattle.std.proofs.lemmas.Bool.{not-true}

-- one more name is printed
pub printed_more : (names : List (List ℕ)) (at : ℕ) (name before slashed after : List ℕ) → slice_get names at ≡ Some name → slashed ≡ before ++ SLASH ∷ [] → after ≡ slashed ++ name
    → before ++ after_slashes (drop at names) ≡ printed names → after ++ after_slashes (drop (at + 1) names) ≡ printed names
printed_more names at name before slashed after found slash pushed h =
    let rest = after_slashes (drop (at + 1) names) in
    let one : after_slashes (drop at names) ≡ SLASH ∷ (name ++ rest) =
    at_drop_more after_slashes names at name (slice_get_within names at name found) ∙ ap (λ n. SLASH ∷ (n ++ rest)) (get_or_from_slice_get names at name name found) in
    ap (λ bs. bs ++ rest) (pushed ∙ ap (λ bs. bs ++ name) slash)
    ∙ append_assoc (before ++ SLASH ∷ []) name rest ∙ append_assoc before (SLASH ∷ []) (name ++ rest) ∙ ap (λ bs. before ++ bs) (sym one) ∙ h

-- ---- what a valid name is

pub record IsPlain (name : List ℕ) : Type 0 where
  pub spells : IsNonSlash name
  pub no_nul : list_any (λ b. b == NUL) name ≡ false
  pub part : part_of name ≡ Named name

component_of : (c long : Bool) → (if not c then Some Invalid else (if long then Some TooLong else None)) ≡ None → c ≡ true
component_of true long h = refl
component_of false long h = cc

some_byte_of : (name : List ℕ) → same_bytes name [] ≡ false → is_empty name ≡ false
some_byte_of [] h = cc
some_byte_of (b ∷ bs) h = refl

part_named : (dot dots : Bool) (name : List ℕ) → dot ≡ false → dots ≡ false → (if dot then Cur else (if dots then Up else Named name)) ≡ Named name
part_named dot dots name h k = rw (h, k)

pub plain_of : (name : List ℕ) → name_fault name ≡ None → IsPlain name
plain_of name h =
    let empty = not (same_bytes name []) in
    let dot = not (same_bytes name (codes ".")) in
    let dots = not (same_bytes name (codes "..")) in
    let slash = not (list_any (λ b. b == SLASH) name) in
    let nul = not (list_any (λ b. b == NUL) name) in
    let four = and_true (empty && dot && dots && slash) nul (component_of (is_component name) (nat_lt NAME_MAX (length name)) h) in
    let three = and_true (empty && dot && dots) slash four.0 in
    let two = and_true (empty && dot) dots three.0 in
    let one = and_true empty dot two.0 in
    record {
      spells = record {
        some_byte = some_byte_of name (not-true (same_bytes name []) one.0);
        no_slash = not-true (list_any (λ b. b == SLASH) name) three.1;
      };
      no_nul = not-true (list_any (λ b. b == NUL) name) four.1;
      part = part_named (same_bytes name (codes ".")) (same_bytes name (codes "..")) name (not-true (same_bytes name (codes ".")) one.1) (not-true (same_bytes name (codes "..")) two.1);
    }

head_plain : (name : List ℕ) (names : List (List ℕ)) → AreNames (name ∷ names) → IsPlain name
head_plain name names h = plain_of name (All-head (λ n. name_fault n ≡ None) name names h)

tail_names : (name : List ℕ) (names : List (List ℕ)) → AreNames (name ∷ names) → AreNames names
tail_names name names h = All-tail (λ n. name_fault n ≡ None) name names h

-- ---- printed names are one slash, and then names with one slash between them

abbrev runs_of : List (List ℕ) → List Run
runs_of [] = []
runs_of (name ∷ []) = record { piece = name; slashes = 0 } ∷ []
runs_of (name ∷ next ∷ names) = record { piece = name; slashes = 1 } ∷ runs_of (next ∷ names)

after_slashes_are : (name : List ℕ) (names : List (List ℕ)) → after_slashes (name ∷ names) ≡ SLASH ∷ runs_text (runs_of (name ∷ names))
after_slashes_are name [] = refl
after_slashes_are name (next ∷ names) = ap (λ bs. SLASH ∷ (name ++ bs)) (after_slashes_are next names)

runs_separated : (names : List (List ℕ)) → AreNames names → AreSeparated (runs_of names)
runs_separated [] h = tt
runs_separated (name ∷ []) h = (head_plain name [] h).spells
runs_separated (name ∷ next ∷ []) h =
    ((head_plain name (next ∷ []) h).spells, omega arith, runs_separated (next ∷ []) (tail_names name (next ∷ []) h))
runs_separated (name ∷ next ∷ more ∷ names) h =
    ((head_plain name (next ∷ more ∷ names) h).spells, omega arith, runs_separated (next ∷ more ∷ names) (tail_names name (next ∷ more ∷ names) h))

printed_spells : (name : List ℕ) (names : List (List ℕ)) → AreNames (name ∷ names) → IsSpelling (printed (name ∷ names)) 1 (runs_of (name ∷ names))
printed_spells name names h = record { text_is = after_slashes_are name names; separated = runs_separated (name ∷ names) h }

parts_named : (names : List (List ℕ)) → AreNames names → parts_spelled (runs_of names) ≡ map Named names
parts_named [] h = refl
parts_named (name ∷ []) h = ap (λ p. p ∷ []) (head_plain name [] h).part
parts_named (name ∷ next ∷ []) h =
    ap (λ p. p ∷ parts_spelled (runs_of (next ∷ []))) (head_plain name (next ∷ []) h).part
    ∙ ap (λ ps. Named name ∷ ps) (parts_named (next ∷ []) (tail_names name (next ∷ []) h))
parts_named (name ∷ next ∷ more ∷ names) h =
    ap (λ p. p ∷ parts_spelled (runs_of (next ∷ more ∷ names))) (head_plain name (next ∷ more ∷ names) h).part
    ∙ ap (λ ps. Named name ∷ ps) (parts_named (next ∷ more ∷ names) (tail_names name (next ∷ more ∷ names) h))

no_final_slash : (names : List (List ℕ)) → ends_in_slashes (runs_of names) ≡ false
no_final_slash [] = refl
no_final_slash (name ∷ []) = refl
no_final_slash (name ∷ next ∷ []) = refl
no_final_slash (name ∷ next ∷ more ∷ names) = no_final_slash (next ∷ more ∷ names)

pub printed_read : (names : List (List ℕ)) → All (λ name. name_fault name ≡ None) names → reading_of (printed names) ≡ record { absolute = true; parts = map Named names; slash = false }
printed_read [] h = refl
printed_read (name ∷ names) h =
    spellings_read (printed (name ∷ names)) 1 (runs_of (name ∷ names)) (printed_spells name names h)
    ∙ ap (λ ps. record { absolute = true; parts = ps; slash = ends_in_slashes (runs_of (name ∷ names)) }) (parts_named (name ∷ names) h)
    ∙ ap (λ s. record { absolute = true; parts = map Named (name ∷ names); slash = s }) (no_final_slash (name ∷ names))

-- ---- they have no byte that faults

after_slashes_no_nul : (names : List (List ℕ)) → AreNames names → list_any (λ b. b == NUL) (after_slashes names) ≡ false
after_slashes_no_nul [] h = refl
after_slashes_no_nul (name ∷ names) h =
    list_any-append (λ b. b == NUL) name (after_slashes names)
    ∙ ap (λ b. b || list_any (λ c. c == NUL) (after_slashes names)) (head_plain name names h).no_nul
    ∙ after_slashes_no_nul names (tail_names name names h)

fault_of : (empty nul long : Bool) → empty ≡ false → nul ≡ false → (if empty then Some NotFound else (if nul then Some Invalid else (if long then Some TooLong else None))) ≡ (if long then Some TooLong else None)
fault_of empty nul long h k = rw (h, k)

pub printed_fault : (names : List (List ℕ)) → All (λ name. name_fault name ≡ None) names → text_fault (printed names) ≡ (if nat_lt TEXT_MAX (length (printed names)) then Some TooLong else None)
printed_fault [] h = refl
printed_fault (name ∷ names) h =
    let text = printed (name ∷ names) in
    fault_of (is_empty text) (list_any (λ b. b == NUL) text) (nat_lt TEXT_MAX (length text)) refl (after_slashes_no_nul (name ∷ names) h)

-- ---- they are read back

is_name_of : (name : List ℕ) → name_fault name ≡ None → is_name name ≡ true
is_name_of name h = ap is_none h

all_are_names : (names : List (List ℕ)) → AreNames names → list_all is_name names ≡ true
all_are_names [] h = refl
all_are_names (name ∷ names) h =
    ap (λ b. b && list_all is_name names) (is_name_of name (All-head (λ n. name_fault n ≡ None) name names h)) ∙ all_are_names names (tail_names name names h)

between_printed : (name : List ℕ) (names : List (List ℕ)) → AreNames (name ∷ names) → between_slashes (name ++ after_slashes names) ≡ name ∷ names
between_printed name [] h =
    slices_piece name [] [] [] (head_plain name [] h).spells.no_slash refl ∙ ap (λ n. n ∷ []) (append-nil name)
between_printed name (next ∷ names) h =
    let rest = next ++ after_slashes names in
    slices_piece name (SLASH ∷ rest) [] (between_slashes rest) (head_plain name (next ∷ names) h).spells.no_slash refl
    ∙ ap (λ n. n ∷ between_slashes rest) (append-nil name)
    ∙ ap (λ ns. name ∷ ns) (between_printed next names (tail_names name (next ∷ names) h))

read_slashed : (text : List ℕ) → is_empty text ≡ false → names_read (SLASH ∷ text) ≡ names_between text
read_slashed [] h = cc
read_slashed (b ∷ text) h = refl

some_names : (pieces names : List (List ℕ)) → pieces ≡ names → list_all is_name names ≡ true → (if list_all is_name pieces then Some pieces else None) ≡ Some names
some_names pieces names e h = rw (e, h) refl

pub printed_names_read : (names : List (List ℕ)) → All (λ name. name_fault name ≡ None) names → names_read (printed names) ≡ Some names
printed_names_read [] h = refl
printed_names_read (name ∷ names) h =
    let rest = name ++ after_slashes names in
    read_slashed rest (some_before name (after_slashes names) (head_plain name names h).spells.some_byte)
    ∙ some_names (between_slashes rest) (name ∷ names) (between_printed name names h) (all_are_names (name ∷ names) h)
