-- What comes before the first question.
use Rattle.std.proofs.Common.{◌≡◌, ◌==◌, ◌&&◌, ◌||◌, ◌⊎◌, ℕ, Bool, true, false, not, cond, refl, ap, ◌∙◌, inl, inr, arith}
use Rattle.std.specs.Cmp.Derive.{both_true}
use Rattle.std.proofs.lemmas.Bool.{and_parts, cond-true, cond-false, eq-eqb, eqb-true, not-true, or_left}
use Rattle.find_place.specs.Held.{are_looked_up, before_questions, behind_look_up, IsCheckEnough, NamesAreLookedUpFirst, NamesAreToldByTheKernelsCheck, OnlyTheRootIsAtItself}
use Rattle.find_place.specs.declared.held.Held.{Held}
use Rattle.find_place.specs.declared.held.TheConstants.{BY_ROOT, BY_NAME, SEEN_BELOW, AT_ROOT, LOOK_UP, AT_NAMES, ASK}

-- by its four tests: the root itself, the names may be looked up, it was opened by a name, the kernel's check is all
abbrev first : Bool → Bool → Bool → Bool → ℕ
first root names name all = cond root AT_ROOT (cond (not names) ASK (cond name LOOK_UP (cond all AT_NAMES ASK)))

at_names : (root names name all : Bool) → first root names name all ≡ AT_NAMES → (names ≡ true) × (all ≡ true)
at_names true names name all e = absurd (omega (arith, e))
at_names false false name all e = absurd (omega (arith, e))
at_names false true true all e = absurd (omega (arith, e))
at_names false true false true e = (refl, refl)
at_names false true false false e = absurd (omega (arith, e))

look_up : (root names name all : Bool) → first root names name all ≡ LOOK_UP → (names ≡ true) × (name ≡ true)
look_up true names name all e = absurd (omega (arith, e))
look_up false false name all e = absurd (omega (arith, e))
look_up false true true all e = (refl, refl)
look_up false true false true e = absurd (omega (arith, e))
look_up false true false false e = absurd (omega (arith, e))

at_root : (root names name all : Bool) → first root names name all ≡ AT_ROOT → root ≡ true
at_root true names name all e = refl
at_root false false name all e = absurd (omega (arith, e))
at_root false true true all e = absurd (omega (arith, e))
at_root false true false true e = absurd (omega (arith, e))
at_root false true false false e = absurd (omega (arith, e))

behind : (found below : Bool) → cond (found && below) AT_NAMES ASK ≡ AT_NAMES → (found ≡ true) × (below ≡ true)
behind true true e = (refl, refl)
behind true false e = absurd (omega (arith, e))
behind false below e = absurd (omega (arith, e))

-- ---- the names may be looked up

record Names (held : Held) : Type 0 where
  named : held.named ≡ true
  by_names : held.above ≡ false
  either : (held.below || not held.directory) ≡ true

names_of : (held : Held) → are_looked_up held ≡ true → Names held
names_of held e =
    let a = and_parts held.named (not held.above && (held.below || not held.directory)) e in
    let b = and_parts (not held.above) (held.below || not held.directory) a.1 in
    record { named = a.0; by_names = not-true held.above b.0; either = b.1 }

is_enough : (held : Held) → are_looked_up held ≡ true → held.below ≡ true → IsCheckEnough held
is_enough held e below =
    let n = names_of held e in record { below = below; named = n.named; by_names = n.by_names }

enough_looks : (held : Held) → IsCheckEnough held → are_looked_up held ≡ true
enough_looks held is =
    both_true is.named (both_true (ap not is.by_names) (or_left held.below (not held.directory) is.below))

either_of : (below directory : Bool) → (below || not directory) ≡ true → (below ≡ true) ⊎ (directory ≡ false)
either_of true directory e = inl refl
either_of false directory e = inr (not-true directory e)

-- another way than as the root itself
other_way : (way : ℕ) (one : ℕ) → way ≡ one → one == BY_ROOT ≡ false → way == BY_ROOT ≡ false
other_way way one e apart = ap (λ (n : ℕ). n == BY_ROOT) e ∙ apart

-- ---- the laws

told_seen : (held : Held) → before_questions held ≡ AT_NAMES → IsCheckEnough held × (held.way ≡ SEEN_BELOW)
told_seen held e =
    let n = at_names (held.way == BY_ROOT) (are_looked_up held) (held.way == BY_NAME) ((held.way == SEEN_BELOW) && held.below) e in
    let all = and_parts (held.way == SEEN_BELOW) held.below n.1 in
    (is_enough held n.0 all.1, eqb-true held.way SEEN_BELOW all.0)

told_found : (held : Held) (found : Bool) → before_questions held ≡ LOOK_UP → behind_look_up held found ≡ AT_NAMES
    → IsCheckEnough held × (found ≡ true)
told_found held found e told =
    let n = look_up (held.way == BY_ROOT) (are_looked_up held) (held.way == BY_NAME) ((held.way == SEEN_BELOW) && held.below) e in
    let all = behind found held.below told in
    (is_enough held n.0 all.1, all.0)

seen_is_told : (held : Held) → IsCheckEnough held → held.way ≡ SEEN_BELOW → before_questions held ≡ AT_NAMES
seen_is_told held is way =
    cond-false (held.way == BY_ROOT) AT_ROOT _ (other_way held.way SEEN_BELOW way refl)
    ∙ (cond-false (not (are_looked_up held)) ASK _ (ap not (enough_looks held is))
    ∙ (cond-false (held.way == BY_NAME) LOOK_UP _ (ap (λ (n : ℕ). n == BY_NAME) way)
    ∙ cond-true ((held.way == SEEN_BELOW) && held.below) AT_NAMES ASK
    (both_true (eq-eqb held.way SEEN_BELOW way) is.below)))

name_is_looked_up : (held : Held) → IsCheckEnough held → held.way ≡ BY_NAME
    → (before_questions held ≡ LOOK_UP) × (behind_look_up held true ≡ AT_NAMES)
name_is_looked_up held is way = (
  cond-false (held.way == BY_ROOT) AT_ROOT _ (other_way held.way BY_NAME way refl)
      ∙ (cond-false (not (are_looked_up held)) ASK _ (ap not (enough_looks held is))
      ∙ cond-true (held.way == BY_NAME) LOOK_UP _ (eq-eqb held.way BY_NAME way)),
  cond-true held.below AT_NAMES ASK is.below,
)

pub names-are-told-by-the-kernels-check : NamesAreToldByTheKernelsCheck
names-are-told-by-the-kernels-check = (told_seen, told_found, seen_is_told, name_is_looked_up)

pub names-are-looked-up-first : NamesAreLookedUpFirst
names-are-looked-up-first held e =
    let n = look_up (held.way == BY_ROOT) (are_looked_up held) (held.way == BY_NAME) ((held.way == SEEN_BELOW) && held.below) e in
    let names = names_of held n.0 in
    (eqb-true held.way BY_NAME n.1, names.named, names.by_names, either_of held.below held.directory names.either)

root_is_told : (held : Held) → held.way ≡ BY_ROOT → before_questions held ≡ AT_ROOT
root_is_told held way = cond-true (held.way == BY_ROOT) AT_ROOT _ (eq-eqb held.way BY_ROOT way)

root_alone : (held : Held) → before_questions held ≡ AT_ROOT → held.way ≡ BY_ROOT
root_alone held e =
    eqb-true held.way BY_ROOT
    (at_root (held.way == BY_ROOT) (are_looked_up held) (held.way == BY_NAME) ((held.way == SEEN_BELOW) && held.below) e)

pub only-the-root-is-at-itself : OnlyTheRootIsAtItself
only-the-root-is-at-itself = (root_is_told, root_alone)
