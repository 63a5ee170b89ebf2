-- A path whose last piece is cut off, read as the path of a directory and a name.
use Rattle.std.proofs.Common.{◌≡◌, ℕ, ◌-◌, ◌<◌, Bool, true, false, not, ◌==◌, ◌&&◌, List, [], ◌∷◌, ◌++◌, length, map, take, drop, refl, sym, ap, ◌∙◌, arith}
use Rattle.std.specs.Prelude.{Option, Some, None, Result, Ok, Err, MatchResult, slice_get, if◌then◌else◌, nat_lt, codes}
use Rattle.std.specs.List.{list_any}
use Rattle.std.proofs.Math.Seq.{take-append_seam, drop-append_seam, get_or-append_seam}
use Rattle.std.proofs.lemmas.Bool.Decides.{nat_tests}
use Rattle.std.proofs.lemmas.List.{append-nil, length-append, map-append, append_assoc}
use Rattle.std.proofs.lemmas.Option.{slice_get-get_or}
use Rattle.std.proofs.lemmas.Bool.{or_parts}
use Rattle.path_text.specs.declared.errno.Errno.{Errno}
use Rattle.path_text.specs.declared.errno.Errno.TheVariants.{Invalid, NotDir, TooLong}
use Rattle.path_text.specs.declared.name.TheConstants.{NAME_MAX, SLASH}
use Rattle.path_text.specs.declared.part.Part.{Part}
use Rattle.path_text.specs.declared.part.Part.TheVariants.{Cur, Up, Named}
use Rattle.path_text.specs.declared.path.Split.{Split}
use Rattle.path_text.specs.Name.{same_bytes}
use Rattle.path_text.specs.Parts.{BeginsWith}
use Rattle.path_text.specs.Reading.{Reading}
use Rattle.path_text.specs.Split.{before_last, dir_of, last_part, parts_without_slash, split_at, split_of}
use Rattle.path_text.specs.Text.{is_empty, pieces, part_of, reading_of, text_fault, begins_with_slash, ends_with_slash, has_final_slash}
use Rattle.path_text.proofs.PlacesLemmas.{pieces_last, rest_whole}
use Rattle.path_text.proofs.TextLemmas.{has_final_slash_counted}
use Rattle.kernel_walks.specs.declared.last_name.Parted.{Parted}
use Rattle.kernel_walks.specs.Split.{piece_fault, refused, rule_of, without_slash, IsCutAt, IsParted, IsPartedAt}

-- ---- lists and their last elements

less_one : {X : Type 0} (xs : List X) (x : X) → length (xs ++ x ∷ []) - 1 ≡ length xs
less_one xs x = omega (arith, length-append xs (x ∷ []))

before_push : (ps : List Part) (p : Part) → before_last (ps ++ p ∷ []) ≡ ps
before_push ps p = ap (λ n. take n (ps ++ p ∷ [])) (less_one ps p) ∙ take-append_seam ps (p ∷ [])

last_push : (ps : List Part) (p : Part) → last_part (ps ++ p ∷ []) ≡ Some p
last_push ps p =
    ap (λ n. slice_get (ps ++ p ∷ []) n) (less_one ps p)
    ∙ slice_get-get_or (ps ++ p ∷ []) (length ps) p (omega (arith, length-append ps (p ∷ [])))
    ∙ ap Some (get_or-append_seam ps p [] p)

-- ---- the parts of a text

unslashed : (ps : List Part) (slash : Bool) → (if slash then before_last (ps ++ (if slash then Cur ∷ [] else [])) else (ps ++ (if slash then Cur ∷ [] else []))) ≡ ps
unslashed ps true = before_push ps Cur
unslashed ps false = append-nil ps

parts_are_pieces : (text : List ℕ) → parts_without_slash (reading_of text) ≡ map part_of (pieces text)
parts_are_pieces text = unslashed (map part_of (pieces text)) (has_final_slash text)

-- what was cut off a path
pub record IsCutOff (path ended : List ℕ) (at : ℕ) : Type 0 where
  pub beginning : BeginsWith path ended
  pub pieces_same : pieces ended ≡ pieces path
  pub cut : IsCutAt ended at

pieces_of : (path ended : List ℕ) (at : ℕ) → (h : IsCutOff path ended at) → pieces path ≡ pieces h.cut.first ++ h.cut.piece ∷ []
pieces_of path ended at h = sym h.pieces_same ∙ ap pieces h.cut.cut ∙ pieces_last h.cut.first h.cut.piece h.cut.apart h.cut.some h.cut.plain

parts_of_path : (path ended : List ℕ) (at : ℕ) → (h : IsCutOff path ended at) → parts_without_slash (reading_of path) ≡ map part_of (pieces h.cut.first) ++ part_of h.cut.piece ∷ []
parts_of_path path ended at h =
    parts_are_pieces path ∙ ap (map part_of) (pieces_of path ended at h) ∙ map-append part_of (pieces h.cut.first) (h.cut.piece ∷ [])

last_of_path : (path ended : List ℕ) (at : ℕ) → (h : IsCutOff path ended at) → last_part (parts_without_slash (reading_of path)) ≡ Some (part_of h.cut.piece)
last_of_path path ended at h = ap last_part (parts_of_path path ended at h) ∙ last_push (map part_of (pieces h.cut.first)) (part_of h.cut.piece)

before_of_path : (path ended : List ℕ) (at : ℕ) → (h : IsCutOff path ended at) → before_last (parts_without_slash (reading_of path)) ≡ parts_without_slash (reading_of h.cut.first)
before_of_path path ended at h =
    ap before_last (parts_of_path path ended at h) ∙ before_push (map part_of (pieces h.cut.first)) (part_of h.cut.piece) ∙ sym (parts_are_pieces h.cut.first)

-- ---- the bytes of a path

whole : (path ended : List ℕ) (at : ℕ) → (h : IsCutOff path ended at) → path ≡ h.cut.first ++ (h.cut.piece ++ h.beginning.0)
whole path ended at h = h.beginning.1 ∙ ap (λ zs. zs ++ h.beginning.0) h.cut.cut ∙ append_assoc h.cut.first h.cut.piece h.beginning.0

first_taken : (path ended : List ℕ) (at : ℕ) → (h : IsCutOff path ended at) → take at path ≡ h.cut.first
first_taken path ended at h =
    ap (λ n. take n path) h.cut.place ∙ ap (take (length h.cut.first)) (whole path ended at h) ∙ take-append_seam h.cut.first (h.cut.piece ++ h.beginning.0)

name_taken : (path ended : List ℕ) (at : ℕ) → (h : IsCutOff path ended at) → take (length ended - at) (drop at path) ≡ h.cut.piece
name_taken path ended at h =
    let rest = h.cut.piece ++ h.beginning.0 in
    let from : drop at path ≡ rest = ap (λ n. drop n path) h.cut.place ∙ ap (drop (length h.cut.first)) (whole path ended at h) ∙ drop-append_seam h.cut.first rest in
    let size : length ended - at ≡ length h.cut.piece = omega (arith, h.cut.place, ap length h.cut.cut, length-append h.cut.first h.cut.piece) in
    ap (take (length ended - at)) from ∙ ap (λ n. take n rest) size ∙ take-append_seam h.cut.piece h.beginning.0

begins_same : (first piece more : List ℕ) → is_empty piece ≡ false → list_any (λ b. b == SLASH) piece ≡ false → begins_with_slash (first ++ (piece ++ more)) ≡ begins_with_slash first
begins_same (b ∷ bs) piece more some plain = refl
begins_same [] [] more some plain = cc
begins_same [] (b ∷ bs) more some plain = (or_parts (b == SLASH) (list_any (λ c. c == SLASH) bs) plain).0

begins_of_path : (path ended : List ℕ) (at : ℕ) → (h : IsCutOff path ended at) → begins_with_slash path ≡ begins_with_slash h.cut.first
begins_of_path path ended at h = ap begins_with_slash (whole path ended at h) ∙ begins_same h.cut.first h.cut.piece h.beginning.0 h.cut.some h.cut.plain

nat_lt_true : (n : ℕ) → 0 < n → nat_lt 0 n ≡ true
nat_lt_true n h = grind (arith, nat_tests)

counted : (n : ℕ) (x : Bool) → 0 < n → (nat_lt 0 n && x) ≡ x
counted n x h = rw (nat_lt_true n h)

slash_of_path : (path ended : List ℕ) (at : ℕ) → (h : IsCutOff path ended at) → has_final_slash path ≡ ends_with_slash path
slash_of_path path ended at h =
    has_final_slash_counted path
    ∙ counted (length (pieces path)) (ends_with_slash path) (omega (arith, ap length (pieces_of path ended at h), length-append (pieces h.cut.first) (h.cut.piece ∷ [])))

piece_dropped : (path ended : List ℕ) (at : ℕ) → (h : IsCutOff path ended at) → drop at ended ≡ h.cut.piece
piece_dropped path ended at h = ap (λ n. drop n ended) h.cut.place ∙ ap (drop (length h.cut.first)) h.cut.cut ∙ drop-append_seam h.cut.first h.cut.piece

-- ---- the last part

named_by : (x y : Bool) (piece bytes : List ℕ) → (if x then Cur else (if y then Up else Named piece)) ≡ Named bytes → piece ≡ bytes
named_by true y piece bytes h = cc
named_by false true piece bytes h = cc
named_by false false piece bytes h = cc

named_of : (piece bytes : List ℕ) → part_of piece ≡ Named bytes → piece ≡ bytes
named_of piece bytes h = named_by (same_bytes piece (codes ".")) (same_bytes piece (codes "..")) piece bytes h

abbrev fault_of_named : Bool → Bool → Option Errno
fault_of_named x y = if x then Some NotDir else (if y then Some TooLong else None)

abbrev split_named : Bool → Bool → Split → Result Split Errno
split_named x y s = if x then Err NotDir else (if y then Err TooLong else Ok s)

named_ok : (x y : Bool) (s : Split) → fault_of_named x y ≡ None → split_named x y s ≡ Ok s
named_ok true y s h = cc
named_ok false true s h = cc
named_ok false false s h = refl

named_err : (x y : Bool) (s : Split) (fault : Errno) → fault_of_named x y ≡ Some fault → split_named x y s ≡ Err fault
named_err true y s fault h = cc
named_err false true s fault h = cc
named_err false false s fault h = cc

split_fits : (path : Reading) (takes : Bool) (part : Part) (piece : List ℕ) → part_of piece ≡ part → piece_fault part (path.slash && not takes) ≡ None
    → split_at path (rule_of takes) (Some part) ≡ Ok (record { dir = dir_of path; name = piece; slash = path.slash })
split_fits path takes Cur piece e h = cc
split_fits path takes Up piece e h = cc
split_fits path true (Named bytes) piece e h =
    named_ok (path.slash && false) (nat_lt NAME_MAX (length bytes)) (record { dir = dir_of path; name = bytes; slash = path.slash }) h
    ∙ ap (λ n. Ok (record { dir = dir_of path; name = n; slash = path.slash })) (sym (named_of piece bytes e))
split_fits path false (Named bytes) piece e h =
    named_ok (path.slash && true) (nat_lt NAME_MAX (length bytes)) (record { dir = dir_of path; name = bytes; slash = path.slash }) h
    ∙ ap (λ n. Ok (record { dir = dir_of path; name = n; slash = path.slash })) (sym (named_of piece bytes e))

split_fails : (path : Reading) (takes : Bool) (part : Part) (fault : Errno) → piece_fault part (path.slash && not takes) ≡ Some fault → split_at path (rule_of takes) (Some part) ≡ Err fault
split_fails path takes Cur fault h = cc
split_fails path takes Up fault h = cc
split_fails path true (Named bytes) fault h = named_err (path.slash && false) (nat_lt NAME_MAX (length bytes)) (record { dir = dir_of path; name = bytes; slash = path.slash }) fault h
split_fails path false (Named bytes) fault h = named_err (path.slash && true) (nat_lt NAME_MAX (length bytes)) (record { dir = dir_of path; name = bytes; slash = path.slash }) fault h

-- ---- what is told

told_by : (path : List ℕ) (takes : Bool) (parted : Parted) (split : Result Split Errno) → text_fault path ≡ None → split_of (reading_of path) (rule_of takes) ≡ split
    → MatchResult split (λ s. IsPartedAt path s parted) (λ error. parted ≡ refused error) → IsParted path takes parted
told_by path takes parted split none same h = rw (none, same) h

pub empty_if : (bs : List ℕ) (tested : Bool) → tested ≡ (length bs == 0) → tested ≡ true → bs ≡ []
empty_if [] tested t h = refl
empty_if (b ∷ bs) tested t h = absurd (grind (arith, nat_tests))

-- why the piece that is passed on is no name, is why the last one is
pub last_fault : (ended : List ℕ) (at : ℕ) (slash takes refuses : Bool) (fault : Option Errno) → refuses ≡ (slash && not takes)
    → fault ≡ piece_fault (part_of (take (length ended - at) (drop at ended))) refuses → piece_fault (part_of (drop at ended)) (slash && not takes) ≡ fault
last_fault ended at slash takes refuses fault r f =
    ap (piece_fault (part_of (drop at ended))) (sym r) ∙ ap (λ piece. piece_fault (part_of piece) refuses) (sym (rest_whole ended at)) ∙ sym f

-- no piece is left
pub nothing_parted : (path ended : List ℕ) (takes : Bool) (parted : Parted) → text_fault path ≡ None → pieces ended ≡ pieces path → ended ≡ [] → parted ≡ refused Invalid → IsParted path takes parted
nothing_parted path ended takes parted none same empty told =
    told_by path takes parted (Err Invalid) none
    (ap (λ ps. split_at (reading_of path) (rule_of takes) (last_part ps)) (parts_are_pieces path ∙ ap (map part_of) (sym same ∙ ap pieces empty)))
    told

at_last : (path ended : List ℕ) (at : ℕ) (takes : Bool) → (h : IsCutOff path ended at) → split_of (reading_of path) (rule_of takes) ≡ split_at (reading_of path) (rule_of takes) (Some (part_of (drop at ended)))
at_last path ended at takes h =
    ap (λ p. split_at (reading_of path) (rule_of takes) p) (last_of_path path ended at h ∙ ap (λ piece. Some (part_of piece)) (sym (piece_dropped path ended at h)))

refuses_same : (path ended : List ℕ) (at : ℕ) (takes slash : Bool) → IsCutOff path ended at → slash ≡ ends_with_slash path → (slash && not takes) ≡ (has_final_slash path && not takes)
refuses_same path ended at takes slash h s = ap (λ x. x && not takes) (s ∙ sym (slash_of_path path ended at h))

-- the last piece is no name, or is refused
pub fault_parted : (path ended : List ℕ) (at : ℕ) (takes slash : Bool) (fault : Errno) (parted : Parted) → IsCutOff path ended at → text_fault path ≡ None → slash ≡ ends_with_slash path
    → piece_fault (part_of (drop at ended)) (slash && not takes) ≡ Some fault → parted ≡ refused fault → IsParted path takes parted
fault_parted path ended at takes slash fault parted h none s e told =
    told_by path takes parted (Err fault) none
    (at_last path ended at takes h
    ∙ split_fails (reading_of path) takes (part_of (drop at ended)) fault (ap (piece_fault (part_of (drop at ended))) (sym (refuses_same path ended at takes slash h s)) ∙ e))
    told

dir_same : (path ended : List ℕ) (at : ℕ) → IsCutOff path ended at → without_slash (reading_of (take at path)) ≡ dir_of (reading_of path)
dir_same path ended at h =
    ap (λ text. without_slash (reading_of text)) (first_taken path ended at h)
    ∙ ap (λ b. record { absolute = b; parts = parts_without_slash (reading_of h.cut.first); slash = false }) (sym (begins_of_path path ended at h))
    ∙ ap (λ ps. record { absolute = begins_with_slash path; parts = ps; slash = false }) (sym (before_of_path path ended at h))

-- the path is parted
pub name_parted : (path ended : List ℕ) (at : ℕ) (takes slash : Bool) → IsCutOff path ended at → text_fault path ≡ None → slash ≡ ends_with_slash path
    → piece_fault (part_of (drop at ended)) (slash && not takes) ≡ None → IsParted path takes (record { name = at; length = length ended - at; slash = slash; error = 0 })
name_parted path ended at takes slash h none s e =
    told_by path takes (record { name = at; length = length ended - at; slash = slash; error = 0 })
    (Ok (record { dir = dir_of (reading_of path); name = drop at ended; slash = has_final_slash path })) none
    (at_last path ended at takes h
    ∙ split_fits (reading_of path) takes (part_of (drop at ended)) (drop at ended) refl (ap (piece_fault (part_of (drop at ended))) (sym (refuses_same path ended at takes slash h s)) ∙ e))
    (record {
      dir = dir_same path ended at h;
      name = name_taken path ended at h ∙ sym (piece_dropped path ended at h);
      slash = s ∙ sym (slash_of_path path ended at h);
      error = refl;
    })
