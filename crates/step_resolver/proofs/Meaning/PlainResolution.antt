-- Facts for the plain program.
use Rattle.std.proofs.Common.{◌≡◌, ℕ, zero, suc, ◌+◌, ◌-◌, ◌<◌, ◌≤◌, nat_lt, Bool, true, false, ◌||◌, List, [], ◌∷◌, ◌++◌, length, map, drop, refl, sym, ap, ◌∙◌, subst, le_refl, arith}
use Rattle.std.specs.Prelude.{Ok, Err, Option, Some, None, slice_get, if◌then◌else◌}
use Rattle.std.specs.Option.{option_map, unwrap_or}
use Rattle.std.proofs.lemmas.Bool.Decides.{nat_tests}
use Rattle.std.proofs.lemmas.List.{drop_more, length-drop}
use Rattle.std.proofs.lemmas.Option.{slice_get_within, get_or_from_slice_get}
use native.Mathlib.Numerals.{unary_clauses}
use Rattle.path_text.specs.declared.errno.Errno.{Errno}
use Rattle.path_text.specs.declared.errno.Errno.TheVariants.{CrossRoot, Loop}
use Rattle.path_text.specs.declared.part.Part.{Part}
use Rattle.path_text.specs.declared.part.Part.TheVariants as part
use Rattle.path_text.specs.Text.{part_of, parts_of, text_fault, begins_with_slash}
pub use Rattle.path_text.proofs.Lists.{slice_get-some}
use Rattle.tree_model.specs.declared.inode.Place.{Place}
use Rattle.walk_plan.specs.Plan.{leads_out}
use Rattle.step_resolver.specs.declared.plain.Arrived.{Arrived}
use Rattle.step_resolver.specs.Asked.{AskedPart, ask, asked, followed}
use Rattle.step_resolver.specs.Meaning.{Ground, Meant, object, fails, after_reads, and_then, from_of, link_in, part_means, parts_mean, LINKS_MAX, path_means, resolves, resolved, is_object, is_error, resolution}
use Rattle.step_resolver.specs.Plain.{meant, arrival}
use Rattle.step_resolver.proofs.Meaning.PartsAndLinks.{LeavesAtMost, Lowers, deeper_at, deeper_at-lowers, means_by, means-lowers, part_means-lowers, parts_mean-same, nesting_does_not_matter}

-- ---- a link's text is resolved as other parts are

meant_deeper : (nested : ℕ) (g : Ground) (e : ℕ) (qs : List AskedPart) (c : ℕ) → c < nested → deeper_at nested g e qs c ≡ meant g e qs c
meant_deeper zero g e qs c h = absurd (omega arith)
meant_deeper (suc nested) g e qs c h = nesting_does_not_matter nested c g e qs c (omega arith) (le_refl c)

pub meant_is : (g : Ground) (d : ℕ) (ps : List AskedPart) (b : ℕ) → meant g d ps b ≡ parts_mean (meant g) g d ps b
meant_is g d ps b =
    means_by b g d ps b
    ∙ parts_mean-same (deeper_at b g) (meant g) g (deeper_at-lowers b g) ps d b (λ e qs c lt. meant_deeper b g e qs c lt)

meant-lowers : (g : Ground) → Lowers (meant g)
meant-lowers g e qs c = means-lowers c g e qs c

-- ---- where a meaning leads, whatever it reads

pub arrival-after_reads : (entries : List Place) (m : Meant) → arrival (after_reads entries m) ≡ arrival m
arrival-after_reads entries (object d b reads) = refl
arrival-after_reads entries (fails error reads) = refl

pub arrival-and_then : (m : Meant) (onward : ℕ → ℕ → Meant) (a : Arrived) → arrival m ≡ Ok a → arrival (and_then m onward) ≡ arrival (onward a.node a.links)
arrival-and_then (object d b reads) onward a h =
    let same : record { node = d; links = b } ≡ a = cc in
    arrival-after_reads reads (onward d b) ∙ ap (λ (x : Arrived). arrival (onward x.node x.links)) same
arrival-and_then (fails error reads) onward a h = cc

pub arrival-and_then_fails : (m : Meant) (onward : ℕ → ℕ → Meant) (error : Errno) → arrival m ≡ Err error → arrival (and_then m onward) ≡ Err error
arrival-and_then_fails (object d b reads) onward error h = cc
arrival-and_then_fails (fails other reads) onward error h = h

arrived-lowers : (b : ℕ) (m : Meant) (a : Arrived) → LeavesAtMost b m → arrival m ≡ Ok a → a.links ≤ b
arrived-lowers b (object d c reads) a l h =
    let same : c ≡ a.links = ap (λ (x : Arrived). x.links) (let e : record { node = d; links = c } ≡ a = cc in e) in
    subst (λ (n : ℕ). n ≤ b) same l
arrived-lowers b (fails error reads) a l h = cc

-- no part adds to the links left
pub part_arrived-lowers : (g : Ground) (d : ℕ) (p : AskedPart) (b : ℕ) (a : Arrived) → arrival (part_means (meant g) g d p b) ≡ Ok a → a.links ≤ b
part_arrived-lowers g d p b a h = arrived-lowers b (part_means (meant g) g d p b) a (part_means-lowers (meant g) (meant-lowers g) g d p b) h

-- ---- part after part

-- the parts from that piece on
abbrev pub parts_from : List (List ℕ) → Bool → ℕ → List Part
parts_from pieces slash at = map part_of (drop at pieces) ++ (if slash then part.Cur ∷ [] else [])

-- a part is followed where the whole is, and where it isn't the last
asked_more : (follow slash : Bool) (p : Part) (ps : List (List ℕ)) → asked follow (p ∷ (map part_of ps ++ (if slash then part.Cur ∷ [] else [])))
    ≡ ask (follow || slash || nat_lt 0 (length ps)) p ∷ asked follow (map part_of ps ++ (if slash then part.Cur ∷ [] else []))
asked_more false false p [] = refl
asked_more false true p [] = refl
asked_more true false p [] = refl
asked_more true true p [] = refl
asked_more false false p (q ∷ ps) = ap (λ t. ask t p ∷ asked false (map part_of (q ∷ ps) ++ [])) (let more : true ≡ nat_lt 0 (length (q ∷ ps)) = grind (arith, nat_tests) in more)
asked_more false true p (q ∷ ps) = refl
asked_more true false p (q ∷ ps) = refl
asked_more true true p (q ∷ ps) = refl

-- the parts from one piece on, as the part of that piece and those of the others
asked_at : (follow slash : Bool) (pieces : List (List ℕ)) (at : ℕ) (piece : List ℕ) → slice_get pieces at ≡ Some piece
    → asked follow (parts_from pieces slash at)
    ≡ ask (follow || slash || nat_lt (at + 1) (length pieces)) (part_of piece) ∷ asked follow (parts_from pieces slash (at + 1))
asked_at follow slash pieces at piece h =
    let inside : at < length pieces = slice_get_within pieces at piece h in
    let one : drop at pieces ≡ piece ∷ drop (at + 1) pieces = drop_more pieces at piece inside ∙ ap (λ p. p ∷ drop (at + 1) pieces) (get_or_from_slice_get pieces at piece piece h) in
    let more : nat_lt 0 (length (drop (at + 1) pieces)) ≡ nat_lt (at + 1) (length pieces) = ap (nat_lt 0) (length-drop (at + 1) pieces) ∙ grind (arith, nat_tests) in
    ap (λ ps. asked follow (map part_of ps ++ (if slash then part.Cur ∷ [] else []))) one
    ∙ asked_more follow slash (part_of piece) (drop (at + 1) pieces)
    ∙ ap (λ t. ask (follow || slash || t) (part_of piece) ∷ asked follow (parts_from pieces slash (at + 1))) more

-- a piece leads to where the others go on, or to the error of the whole
module _ (g : Ground) (follow slash : Bool) (pieces : List (List ℕ)) (at : ℕ) (piece : List ℕ) (is : slice_get pieces at ≡ Some piece) (d b : ℕ) where
  abbrev first : Meant
  first = part_means (meant g) g d (ask (follow || slash || nat_lt (at + 1) (length pieces)) (part_of piece)) b

  abbrev onward : ℕ → ℕ → Meant
  onward e c = parts_mean (meant g) g e (asked follow (parts_from pieces slash (at + 1))) c

  abbrev whole : Meant
  whole = parts_mean (meant g) g d (asked follow (parts_from pieces slash at)) b

  one_by_one : whole ≡ and_then first onward
  one_by_one = ap (λ ps. parts_mean (meant g) g d ps b) (asked_at follow slash pieces at piece is)

  pub piece_arrives : (a : Arrived) → arrival first ≡ Ok a → arrival whole ≡ arrival (onward a.node a.links)
  piece_arrives a h = ap arrival one_by_one ∙ arrival-and_then first onward a h

  pub piece_fails : (error : Errno) → arrival first ≡ Err error → arrival whole ≡ Err error
  piece_fails error h = ap arrival one_by_one ∙ arrival-and_then_fails first onward error h

-- ---- links

pub asked_true : (ps : List Part) → asked true ps ≡ followed ps
asked_true [] = refl
asked_true (p ∷ []) = refl
asked_true (p ∷ q ∷ ps) = ap (λ qs. ask true p ∷ qs) (asked_true (q ∷ ps))

-- a link that may be followed means the parts of its text, with one link less
pub link_followed : (g : Ground) (d : ℕ) (text : List ℕ) (b : ℕ) → 0 < b → g.flags.no_links ≡ false → leads_out (begins_with_slash text) g.flags ≡ false
    → link_in (meant g) g d text b ≡ parts_mean (meant g) g (from_of g.root d text) (asked true (parts_of text)) (b - 1)
link_followed g d text zero h allowed within = absurd (omega arith)
link_followed g d text (suc b) h allowed within =
    ap (λ t. if t then fails Loop [] else (if leads_out (begins_with_slash text) g.flags then fails CrossRoot [] else meant g (from_of g.root d text) (followed (parts_of text)) b)) allowed
    ∙ ap (λ t. if t then fails CrossRoot [] else meant g (from_of g.root d text) (followed (parts_of text)) b) within
    ∙ meant_is g (from_of g.root d text) (followed (parts_of text)) b
    ∙ ap (λ ps. parts_mean (meant g) g (from_of g.root d text) ps b) (sym (asked_true (parts_of text)))
    ∙ ap (λ c. parts_mean (meant g) g (from_of g.root d text) (asked true (parts_of text)) c) (let less : b ≡ suc b - 1 = omega arith in less)

-- ---- pieces

-- what is found at a place that there is
pub found_there : {A B : Type 0} (v : A → B) (r : Option A) (xs : List B) (at : ℕ) (w z : A) → at < length xs → option_map v r ≡ slice_get xs at
    → w ≡ unwrap_or r z → slice_get xs at ≡ Some (v w)
found_there v None xs at w z h found q =
    let there = slice_get-some xs at h in
    let e : None ≡ Some there.0 = found ∙ there.1 in cc
found_there v (Some x) xs at w z h found q = sym found ∙ ap (λ y. Some (v y)) (sym q)

-- ---- the whole path

pub resolution_ok : (m : Meant) (a : Arrived) → arrival m ≡ Ok a → resolution m ≡ is_object a.node
resolution_ok (object d b reads) a h =
    let same : record { node = d; links = b } ≡ a = cc in
    ap (λ (x : Arrived). is_object x.node) same
resolution_ok (fails error reads) a h = cc

pub resolution_err : (m : Meant) (error : Errno) → arrival m ≡ Err error → resolution m ≡ is_error error
resolution_err (object d b reads) error h = cc
resolution_err (fails other reads) error h =
    let same : other ≡ error = cc in
    ap is_error same

pub whole_is : (g : Ground) (text : List ℕ) (follow : Bool) → text_fault text ≡ None → leads_out (begins_with_slash text) g.flags ≡ false
    → resolved g.nodes g.root text follow g.flags ≡ parts_mean (meant g) g g.root (asked follow (parts_of text)) LINKS_MAX
whole_is g text follow sound within =
    ap (resolves g text follow) sound
    ∙ ap (λ t. if t then fails CrossRoot [] else path_means g (asked follow (parts_of text))) within
    ∙ meant_is g g.root (asked follow (parts_of text)) LINKS_MAX
