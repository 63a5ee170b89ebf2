-- The place that a text tells.
use Rattle.std.proofs.Common.{◌≡◌, ◌-◌, ◌≤◌, ◌==◌, ◌&&◌, ◌||◌, ℕ, zero, suc, Bool, true, false, not, List, [], ◌∷◌, length, take, drop, Some, None, nat_lt, refl, sym, ap, subst, ◌∙◌, arith}
use Rattle.std.specs.List.{list_any}
use Rattle.std.specs.Prelude.{codes}
use Rattle.std.specs.Cmp.Lexicographic.{same_text}
use Rattle.std.proofs.lemmas.Bool.{both_ways, cond-true, cond_both, and_parts, eqb-true, false_from_ne_true, false≢true, ltb-false, ltb-true, not-false, true≢false, or_left, or_right}
use Rattle.std.proofs.lemmas.List.{length-drop, take_all}
use Rattle.path_text.specs.Name.{same_bytes}
use Rattle.path_text.specs.Text.{begins_with_slash}
use Rattle.path_text.specs.declared.name.TheConstants.{SLASH}
use Rattle.path_text.specs.declared.path.TheConstants.{TEXT_MAX}
use Rattle.system_calls.specs.Place.{behind, ends_as_gone, is_named, last_part, place_below, place_told}
use Rattle.find_place.specs.Questions.{is_top}
use Rattle.find_place.specs.Witness.{IsPart, NamesLieInTheText}

-- ---- a slash alone

alone_slash : (place : List ℕ) → begins_with_slash place ≡ true → is_top place ≡ true → place ≡ SLASH ∷ []
alone_slash [] slash top = absurd (false≢true slash)
alone_slash (b ∷ []) slash top = ap (λ x. x ∷ []) (eqb-true b SLASH slash)
alone_slash (b ∷ c ∷ bs) slash top = absurd (omega (arith, eqb-true (length (b ∷ c ∷ bs)) 1 top))

some_slash : (place text : List ℕ) → begins_with_slash text ≡ true → Some text ≡ Some place → is_top place ≡ true → place ≡ SLASH ∷ []
some_slash place text slash e top =
    let same : text ≡ place = cc in
    alone_slash place (subst (λ (x : List ℕ). begins_with_slash x ≡ true) same slash) top

behind_slash : (rest place : List ℕ) → behind rest ≡ Some place → is_top place ≡ true → place ≡ SLASH ∷ []
behind_slash [] place e top = some_slash place (SLASH ∷ []) refl e top
behind_slash (b ∷ bs) place e top =
    cond_both (b == SLASH) (Some (b ∷ bs)) None (λ o. o ≡ Some place → place ≡ SLASH ∷ [])
    (λ slash f. some_slash place (b ∷ bs) slash f top) (λ _ f. absurd cc) e

below_slash_alone : (root path place : List ℕ) → place_below root path ≡ Some place → is_top place ≡ true → place ≡ SLASH ∷ []
below_slash_alone root path place e top =
    cond_both (not (begins_with_slash root && begins_with_slash path)) None _ (λ o. o ≡ Some place → place ≡ SLASH ∷ [])
    (λ _ f. absurd cc)
    (λ begin. cond_both (same_bytes root (SLASH ∷ [])) (Some path) _ (λ o. o ≡ Some place → place ≡ SLASH ∷ [])
    (λ _ f. some_slash place path (and_parts (begins_with_slash root) (begins_with_slash path) (not-false _ begin)).1 f top)
    (λ _. cond_both (same_bytes (take (length root) path) root) (behind (drop (length root) path)) None
    (λ o. o ≡ Some place → place ≡ SLASH ∷ []) (λ _ f. behind_slash (drop (length root) path) place f top) (λ _ f. absurd cc))) e

pub slash : (root path place : List ℕ) → place_told root path ≡ Some place → is_top place ≡ true → place ≡ SLASH ∷ []
slash root path place e top =
    cond_both (nat_lt TEXT_MAX (length path)) None (place_below root path) (λ o. o ≡ Some place → place ≡ SLASH ∷ [])
    (λ _ f. absurd cc) (λ _ f. below_slash_alone root path place f top) e

-- ---- where it lies

-- the path is a slash with what is behind it
record Begins (path : List ℕ) : Type 0 where
  rest : List ℕ
  is : path ≡ SLASH ∷ rest

begins : (path : List ℕ) → begins_with_slash path ≡ true → Begins path
begins [] slash = absurd (false≢true slash)
begins (b ∷ bs) slash = record { rest = bs; is = ap (λ x. x ∷ bs) (eqb-true b SLASH slash) }

first_part : (path : List ℕ) → Begins path → IsPart path (SLASH ∷ []) 0 1
first_part path b =
    subst (λ (p : List ℕ). IsPart p (SLASH ∷ []) 0 1) (sym b.is) (record { within = omega arith; bytes = refl })

last_bytes : (k : ℕ) (path place : List ℕ) → k ≤ length path → drop k path ≡ place
    → IsPart path place (length path - length place) (length place)
last_bytes k path place within is =
    let size : length place ≡ length path - k = sym (ap length is) ∙ length-drop k path in
    let at : length path - length place ≡ k = omega (arith, size, within) in
    record {
      within = omega (arith, size, within);
      bytes = ap (λ n. take (length place) (drop n path)) at ∙ ap (take (length place)) is ∙ take_all (length place) place (omega arith);
    }

-- the place lies in the path, where it isn't the root's
abbrev Lies : List ℕ → List ℕ → Type 0
Lies path place = (k : ℕ) × (k ≤ length path) × (drop k path ≡ place)

behind_lies : (k : ℕ) (path rest place : List ℕ) → drop k path ≡ rest → behind rest ≡ Some place → is_top place ≡ false
    → Lies path place
behind_lies k path [] place is e top =
    let same : SLASH ∷ [] ≡ place = cc in
    absurd (true≢false (ap is_top same ∙ top))
behind_lies k path (b ∷ bs) place is e top =
    cond_both (b == SLASH) (Some (b ∷ bs)) None (λ o. o ≡ Some place → Lies path place)
    (λ slash f.
    let same : b ∷ bs ≡ place = cc in
    let size : suc (length bs) ≡ length path - k = sym (ap length is) ∙ length-drop k path in
    (k, omega (arith, size), is ∙ same))
    (λ _ f. absurd cc) e

below_lies : (root path place : List ℕ) → place_below root path ≡ Some place → is_top place ≡ false → Lies path place
below_lies root path place e top =
    cond_both (not (begins_with_slash root && begins_with_slash path)) None _ (λ o. o ≡ Some place → Lies path place)
    (λ _ f. absurd cc)
    (λ begin. cond_both (same_bytes root (SLASH ∷ [])) (Some path) _ (λ o. o ≡ Some place → Lies path place)
    (λ _ f. let same : path ≡ place = cc in (0, omega arith, same))
    (λ _. cond_both (same_bytes (take (length root) path) root) (behind (drop (length root) path)) None
    (λ o. o ≡ Some place → Lies path place) (λ _ f. behind_lies (length root) path (drop (length root) path) place refl f top)
    (λ _ f. absurd cc))) e

-- a place is told of a path that begins with a slash
below_begins : (root path place : List ℕ) → place_below root path ≡ Some place → Begins path
below_begins root path place e =
    cond_both (not (begins_with_slash root && begins_with_slash path)) None _ (λ o. o ≡ Some place → Begins path)
    (λ _ f. absurd cc)
    (λ begin f. begins path (and_parts (begins_with_slash root) (begins_with_slash path) (not-false _ begin)).1) e

told_below : (root path place : List ℕ) → place_told root path ≡ Some place → place_below root path ≡ Some place
told_below root path place e =
    cond_both (nat_lt TEXT_MAX (length path)) None (place_below root path)
    (λ o. o ≡ Some place → place_below root path ≡ Some place) (λ _ f. absurd cc) (λ _ f. f) e

top_lies : (path place : List ℕ) → Begins path → place ≡ SLASH ∷ [] → IsPart path place 0 (length place)
top_lies path place b is = subst (λ (p : List ℕ). IsPart path p 0 (length p)) (sym is) (first_part path b)

pub lies : NamesLieInTheText
lies root path place e =
    cond_both (is_top place) 0 (length path - length place) (λ n. IsPart path place n (length place))
    (λ top. top_lies path place (below_begins root path place (told_below root path place e)) (slash root path place e top))
    (λ below.
    let at = below_lies root path place (told_below root path place e) below in
    last_bytes at.0 path place at.1 at.2)

-- ---- what is called deleted

deleted_end : (text : List ℕ) → ends_as_gone text ≡ true → codes " (deleted)" ≡ drop (length text - 10) text
deleted_end text e = same_text (codes " (deleted)") (drop (length text - 10) text) (sym e)

deleted_size : (text : List ℕ) → ends_as_gone text ≡ true → 10 ≤ length text
deleted_size text e =
    let size : 10 ≡ length (drop (length text - 10) text) = ap length (deleted_end text e) in
    omega (arith, size, length-drop (length text - 10) text)

-- by the bytes behind the first one, where these are enough
behind_first : (b : ℕ) (bs : List ℕ) → 10 ≤ length bs → ends_as_gone (b ∷ bs) ≡ ends_as_gone bs
behind_first b bs size =
    let at : suc (length bs) - 10 ≡ suc (length bs - 10) = omega (arith, size) in
    ap (λ k. same_bytes (codes " (deleted)") (drop k (b ∷ bs))) at

-- else it is these words, which have no slash
no_slash : (text : List ℕ) → ends_as_gone text ≡ true → length text ≡ 10 → list_any (λ b. b == SLASH) text ≡ true → ⊥
no_slash text e size some =
    let first : length text - 10 ≡ 0 = omega (arith, size) in
    let is : codes " (deleted)" ≡ text = deleted_end text e ∙ ap (λ k. drop k text) first in
    false≢true (subst (λ (x : List ℕ). list_any (λ b. b == SLASH) x ≡ true) (sym is) some)

deleted_part : (text : List ℕ) → ends_as_gone text ≡ true → ends_as_gone (last_part text) ≡ true
deleted_part [] e = e
deleted_part (b ∷ bs) e =
    cond_both (list_any (λ c. c == SLASH) (b ∷ bs)) (last_part bs) (b ∷ bs) (λ x. ends_as_gone x ≡ true)
    (λ some. cond_both (nat_lt (length bs) 10) 0 0 (λ (n : ℕ). ends_as_gone (last_part bs) ≡ true)
    (λ short. absurd (no_slash (b ∷ bs) e (omega (arith, deleted_size (b ∷ bs) e, ltb-true (length bs) 10 short)) some))
    (λ long. deleted_part bs (sym (behind_first b bs (ltb-false (length bs) 10 long)) ∙ e)))
    (λ none. e)

part_deleted : (text : List ℕ) → ends_as_gone (last_part text) ≡ true → ends_as_gone text ≡ true
part_deleted [] e = e
part_deleted (b ∷ bs) e =
    cond_both (list_any (λ c. c == SLASH) (b ∷ bs)) (last_part bs) (b ∷ bs)
    (λ x. ends_as_gone x ≡ true → ends_as_gone (b ∷ bs) ≡ true)
    (λ some f. let below = part_deleted bs f in behind_first b bs (deleted_size bs below) ∙ below) (λ none f. f) e

-- ---- a place is the end of its text

any_behind : (n : ℕ) (text : List ℕ) → list_any (λ b. b == SLASH) (drop n text) ≡ true
    → list_any (λ b. b == SLASH) text ≡ true
any_behind zero text some = some
any_behind (suc n) [] some = some
any_behind (suc n) (b ∷ bs) some = or_right (b == SLASH) _ (any_behind n bs some)

part_behind : (n : ℕ) (text : List ℕ) → list_any (λ b. b == SLASH) (drop n text) ≡ true
    → last_part (drop n text) ≡ last_part text
part_behind zero text some = refl
part_behind (suc n) [] some = refl
part_behind (suc n) (b ∷ bs) some =
    part_behind n bs some ∙ sym (cond-true (list_any (λ c. c == SLASH) (b ∷ bs)) (last_part bs) (b ∷ bs)
    (any_behind (suc n) (b ∷ bs) some))

called_behind : (n : ℕ) (text rest place : List ℕ) → rest ≡ drop n text → behind rest ≡ Some place
    → (length place == 1) ≡ false → ends_as_gone text ≡ true → ends_as_gone place ≡ true
called_behind n text [] place is e top called =
    let same : SLASH ∷ [] ≡ place = cc in
    absurd (true≢false (ap (λ p. length p == 1) same ∙ top))
called_behind n text (b ∷ bs) place is e top called =
    cond_both (b == SLASH) (Some (b ∷ bs)) None (λ o. o ≡ Some place → ends_as_gone place ≡ true)
    (λ slash f.
    let same : b ∷ bs ≡ place = cc in
    let some : list_any (λ c. c == SLASH) (drop n text) ≡ true =
    subst (λ (x : List ℕ). list_any (λ c. c == SLASH) x ≡ true) is (or_left (b == SLASH) _ slash) in
    let part = part_behind n text some in
    let last = subst (λ (x : List ℕ). ends_as_gone x ≡ true) (sym part) (deleted_part text called) in
    subst (λ (x : List ℕ). ends_as_gone x ≡ true) (sym is ∙ same) (part_deleted (drop n text) last))
    (λ _ f. absurd cc) e

called_below : (root path place : List ℕ) → place_below root path ≡ Some place → (length place == 1) ≡ false
    → ends_as_gone path ≡ true → ends_as_gone place ≡ true
called_below root path place e top called =
    cond_both (not (begins_with_slash root && begins_with_slash path)) None _
    (λ o. o ≡ Some place → ends_as_gone place ≡ true) (λ _ f. absurd cc)
    (λ _. cond_both (same_bytes root (SLASH ∷ [])) (Some path) _ (λ o. o ≡ Some place → ends_as_gone place ≡ true)
    (λ _ f. let same : path ≡ place = cc in subst (λ (x : List ℕ). ends_as_gone x ≡ true) same called)
    (λ _. cond_both (same_bytes (take (length root) path) root) (behind (drop (length root) path)) None
    (λ o. o ≡ Some place → ends_as_gone place ≡ true)
    (λ _ f. called_behind (length root) path (drop (length root) path) place refl f top called) (λ _ f. absurd cc))) e

-- where the place isn't called deleted, the text isn't
pub not_called : (root path place : List ℕ) → place_told root path ≡ Some place → is_top place ≡ false
    → ends_as_gone place ≡ false → ends_as_gone path ≡ false
not_called root path place e top named =
    cond_both (nat_lt TEXT_MAX (length path)) None (place_below root path)
    (λ o. o ≡ Some place → ends_as_gone path ≡ false) (λ _ f. absurd cc)
    (λ _ f. false_from_ne_true (ends_as_gone path)
    (λ called. both_ways (ends_as_gone place) named (called_below root path place f top called))) e

-- ---- what is named

there_by : (again place : List ℕ) (gone : Bool) → ends_as_gone again ≡ gone
    → (not gone || same_bytes (last_part again) (last_part place)) ≡ true → ends_as_gone place ≡ false → gone ≡ false
there_by again place true is named there =
    let same = same_text (last_part again) (last_part place) (sym named) in
    let part = subst (λ (x : List ℕ). ends_as_gone x ≡ true) same (deleted_part again is) in
    absurd (both_ways (ends_as_gone place) there (part_deleted place part))
there_by again place false is named there = refl

-- what is named as a place that isn't called deleted isn't called so either
pub named_there : (again place : List ℕ) → is_named again place ≡ true → ends_as_gone place ≡ false
    → ends_as_gone again ≡ false
named_there again place named there = there_by again place (ends_as_gone again) refl named there
