-- How a path is divided into its directory's path and its last name.
use Rattle.std.proofs.Common.{◌≡◌, ℕ, ◌-◌, ◌≤◌, Bool, true, false, ◌==◌, List, [], ◌∷◌, ◌++◌, length, map, take, drop, refl, sym, ap, ◌∙◌, arith, cond, zero, suc}
use Rattle.std.specs.Prelude.{◌≢◌, Option, Some, None, Result, Ok, Err, MatchOption, MatchResult, if◌then◌else◌, not, nat_lt}
use Rattle.std.specs.List.{filter, list_any, onto_first}
use Rattle.std.proofs.Math.Seq.{take-append_seam}
use Rattle.std.proofs.lemmas.Bool.{or_parts}
use Rattle.std.proofs.lemmas.Bool.Decides.{nat_tests}
use Rattle.std.proofs.lemmas.List.{append-nil, append_assoc, length-append, length-take, take-append-drop}
use Rattle.std.proofs.lemmas.List.Folds.{list_any-append}
use Rattle.path_text.specs.Errno.{number_of}
use Rattle.path_text.specs.Name.{NUL}
use Rattle.path_text.specs.Parts.{BeginsWith}
use Rattle.path_text.specs.Split.{before_last, parts_without_slash, split_of}
use Rattle.path_text.specs.Text.{begins_with_slash, between_slashes, ends_with_slash, has_final_slash, is_empty, part_of, pieces, reading_of, text_fault}
use Rattle.path_text.specs.declared.errno.Errno.{Errno}
use Rattle.path_text.specs.declared.errno.Errno.TheVariants.{NotFound, Invalid, TooLong}
use Rattle.path_text.specs.declared.errno.Errno.TheVariants as errnos
use Rattle.path_text.specs.declared.name.TheConstants.{SLASH}
use Rattle.path_text.specs.declared.part.Part.{Part}
use Rattle.path_text.specs.declared.part.Part.TheVariants.{Cur}
use Rattle.path_text.specs.declared.path.Split.{Split}
use Rattle.path_text.specs.declared.path.TheConstants.{TEXT_MAX}
use Rattle.path_text.proofs.TextLemmas.{is_short}
use Rattle.kernel_walks.specs.Behind.{IsDirectoryText}
use Rattle.kernel_walks.specs.Split.{IsParted, IsPartedAt, refused, rule_of}
use Rattle.kernel_walks.specs.declared.last_name.Parted.{Parted}
use Rattle.root_ops.specs.Acts.{IsEntry}
use Rattle.root_ops.specs.CallHistory.{IsPath}

-- ---- where a last name stands

has_number : (error : Errno) → number_of error ≡ 0 → ⊥
has_number errnos.NotFound e = cc
has_number errnos.BadHandle e = cc
has_number errnos.Raced e = cc
has_number errnos.NoMemory e = cc
has_number errnos.Busy e = cc
has_number errnos.Exists e = cc
has_number errnos.CrossRoot e = cc
has_number errnos.NotDir e = cc
has_number errnos.IsDir e = cc
has_number errnos.Invalid e = cc
has_number errnos.TooMany e = cc
has_number errnos.BookFull e = cc
has_number errnos.TooLong e = cc
has_number errnos.NotEmpty e = cc
has_number errnos.Loop e = cc

not_refused : (error : Errno) (parted : Parted) → parted ≡ refused error → parted.error ≡ 0 → ⊥
not_refused error parted is none = has_number error (sym (ap (λ p. p.error) is) ∙ none)

abbrev Stands : List ℕ → Bool → Parted → Type 0
Stands text takes parted = (split : Split) × IsEntry text (rule_of takes) split × IsPartedAt text split parted

stands_by : (text : List ℕ) (takes : Bool) (parted : Parted) (fault : Option Errno) (split : Result Split Errno)
    → text_fault text ≡ fault → split_of (reading_of text) (rule_of takes) ≡ split
    → MatchOption fault (MatchResult split (λ s. IsPartedAt text s parted) (λ error. parted ≡ refused error))
    (λ error. parted ≡ refused error)
    → parted.error ≡ 0 → Stands text takes parted
stands_by text takes parted (Some error) split f s is none = absurd (not_refused error parted is none)
stands_by text takes parted None (Err error) f s is none = absurd (not_refused error parted is none)
stands_by text takes parted None (Ok split) f s is none = (split, (f, s), is)

pub stands : (text : List ℕ) (takes : Bool) (parted : Parted) → IsParted text takes parted → parted.error ≡ 0
    → Stands text takes parted
stands text takes parted is none =
    stands_by text takes parted (text_fault text) (split_of (reading_of text) (rule_of takes)) refl refl is none

-- ---- the parts of a text

abbrev with_cur : List Part → Bool → List Part
with_cur ps slash = ps ++ (if slash then Cur ∷ [] else [])

without_cur : (ps : List Part) (slash : Bool)
    → (if slash then before_last (with_cur ps slash) else with_cur ps slash) ≡ ps
without_cur ps true =
    let one : length (ps ++ Cur ∷ []) - 1 ≡ length ps = omega (arith, length-append ps (Cur ∷ [])) in
    ap (λ n. take n (ps ++ Cur ∷ [])) one ∙ take-append_seam ps (Cur ∷ [])
without_cur ps false = append-nil ps

pub parts_are_pieces : (text : List ℕ) → parts_without_slash (reading_of text) ≡ map part_of (pieces text)
parts_are_pieces text = without_cur (map part_of (pieces text)) (has_final_slash text)

abbrev kept : List (List ℕ) → List (List ℕ)
kept ps = filter (λ p. not (is_empty p)) ps

some_more : (t : Bool) (b : ℕ) (ps : List (List ℕ)) → kept ps ≢ [] → kept (cond t ([] ∷ ps) (onto_first b ps)) ≢ []
some_more true b ps some none = some none
some_more false b [] some none = some refl
some_more false b (p ∷ ps) some none = cc (none)

some_last : (t : Bool) (b : ℕ) → t ≡ false → kept (cond t ([] ∷ [] ∷ []) ((b ∷ []) ∷ [])) ≢ []
some_last true b last none = cc (last)
some_last false b last none = cc (none)

some_pieces : (text : List ℕ) → is_empty text ≡ false → ends_with_slash text ≡ false → pieces text ≢ []
some_pieces [] some last none = cc (some)
some_pieces (b ∷ []) some last none = some_last (b == SLASH) b last none
some_pieces (b ∷ c ∷ bs) some last none =
    some_more (b == SLASH) b (between_slashes (c ∷ bs)) (some_pieces (c ∷ bs) refl last) none

some_parts : (ps : List (List ℕ)) → ps ≢ [] → map part_of ps ≢ []
some_parts [] some none = some refl
some_parts (p ∷ ps) some none = cc (none)

-- ---- the text before the name

-- the bytes that are left of a beginning are the text's own
pub front_is : (text rest : List ℕ) (count n : ℕ) → BeginsWith (take count text) rest → n ≡ length rest
    → take n text ≡ rest
front_is text rest count n h e =
    let whole : text ≡ rest ++ (h.0 ++ drop count text) =
    sym (take-append-drop count text) ∙ ap (λ xs. xs ++ drop count text) h.1
    ∙ append_assoc rest h.0 (drop count text) in
    ap (λ k. take k text) e ∙ ap (take (length rest)) whole ∙ take-append_seam rest (h.0 ++ drop count text)

abbrev fault_by : Bool → Bool → Bool → Option Errno
fault_by empty nul long =
    if empty then Some NotFound else (if nul then Some Invalid else (if long then Some TooLong else None))

is_some : (empty nul long : Bool) → fault_by empty nul long ≡ None → empty ≡ false
is_some true nul long h = cc (h)
is_some false nul long h = refl

is_plain : (empty nul long : Bool) → fault_by empty nul long ≡ None → nul ≡ false
is_plain true nul long h = cc (h)
is_plain false true long h = cc (h)
is_plain false false long h = refl

no_fault : (empty nul long : Bool) → empty ≡ false → nul ≡ false → long ≡ false → fault_by empty nul long ≡ None
no_fault empty nul long e n l = rw (e, n, l)

abbrev has_nul : List ℕ → Bool
has_nul text = list_any (λ b. b == NUL) text

no_nul : (text : List ℕ) (n : ℕ) → has_nul text ≡ false → has_nul (take n text) ≡ false
no_nul text n h =
    (or_parts (has_nul (take n text)) (has_nul (drop n text))
    (sym (list_any-append (λ b. b == NUL) (take n text) (drop n text)) ∙ ap has_nul (take-append-drop n text) ∙ h)).0

is_not_less : (m n : ℕ) → n ≤ m → nat_lt m n ≡ false
is_not_less m n h = grind (arith, nat_tests)

some_front : (text : List ℕ) (n : ℕ) → is_empty text ≡ false → n ≢ 0 → is_empty (take n text) ≡ false
some_front text zero some more = absurd (more refl)
some_front [] (suc n) some more = some
some_front (b ∷ bs) (suc n) some more = refl

begins_front : (text : List ℕ) (n : ℕ) → n ≢ 0 → begins_with_slash (take n text) ≡ begins_with_slash text
begins_front text zero more = absurd (more refl)
begins_front [] (suc n) more = refl
begins_front (b ∷ bs) (suc n) more = refl

pub is_not_empty : (text : List ℕ) → IsPath text → is_empty text ≡ false
is_not_empty text is = is_some (is_empty text) (has_nul text) (nat_lt TEXT_MAX (length text)) is

path_front : (text : List ℕ) (n count : ℕ) → IsPath text → n ≢ 0 → n ≤ length (take count text) → IsPath (take n text)
path_front text n count is more within =
    let short : length (take n text) ≤ TEXT_MAX = omega (arith, is_short text is, length-take n text) in
    no_fault (is_empty (take n text)) (has_nul (take n text)) (nat_lt TEXT_MAX (length (take n text)))
    (some_front text n (is_not_empty text is) more)
    (no_nul text n (is_plain (is_empty text) (has_nul text) (nat_lt TEXT_MAX (length text)) is))
    (is_not_less TEXT_MAX (length (take n text)) short)

some_count : (text : List ℕ) (count n : ℕ) → n ≤ length (take count text) → n ≢ 0 → count ≢ 0
some_count text count n within more none = more (omega (arith, within, length-take count text, none))

dir_parts : (text : List ℕ) (split : Split) (parted : Parted) → IsPartedAt text split parted
    → split.dir.parts ≡ map part_of (pieces (take parted.name text))
dir_parts text split parted is = sym (ap (λ r. r.parts) is.dir) ∙ parts_are_pieces (take parted.name text)

-- so many bytes of the text are those before the name, without the slashes at their end
pub record IsFront (text : List ℕ) (count n : ℕ) : Type 0 where
  pub pieces_same : pieces (take n text) ≡ pieces (take count text)
  pub last : ends_with_slash (take n text) ≡ false
  pub within : n ≤ length (take count text)

-- a path of those parts, and there are some
abbrev pub IsSomeDirectory : Split → List ℕ → Type 0
IsSomeDirectory split text = (split.dir.parts ≢ []) × IsDirectoryText text split

pub front_text : (text : List ℕ) (split : Split) (parted : Parted) (n : ℕ) → IsFront text parted.name n → n ≢ 0
    → IsPath text → IsPartedAt text split parted → IsSomeDirectory split (take n text)
front_text text split parted n front more path is =
    let same : split.dir.parts ≡ map part_of (pieces (take n text)) =
    dir_parts text split parted is ∙ ap (map part_of) (sym front.pieces_same) in
    let some = some_pieces (take n text) (some_front text n (is_not_empty text path) more) front.last in
    let count = some_count text parted.name n front.within more in (
      λ none. some_parts (pieces (take n text)) some (sym same ∙ none),
      record {
        is_path = path_front text n parted.name path more front.within;
        absolute = begins_front text n more ∙ sym (begins_front text parted.name count) ∙ ap (λ r. r.absolute) is.dir;
        parts = parts_are_pieces (take n text) ∙ sym same;
      },
    )
