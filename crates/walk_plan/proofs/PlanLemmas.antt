-- What the calls of a plan leave of it.
use Rattle.std.proofs.Common.{◌≡◌, ℕ, ◌+◌, ◌-◌, ◌≤◌, ◌<◌, Bool, true, false, ◌||◌, ◌==◌, List, [], ◌∷◌, ◌++◌, length, refl, arith, length-append}
use Rattle.std.specs.Prelude.{Option, Some, None, IsSome, if◌then◌else◌}
use Rattle.std.proofs.lemmas.Bool.Decides.{nat_tests}
use Rattle.path_text.specs.declared.errno.Errno.{Errno}
use Rattle.path_text.specs.declared.errno.Errno.TheVariants.{Loop}
use Rattle.path_text.specs.declared.part.Part.{Part}
use Rattle.path_text.specs.declared.path.TheConstants.{PARTS_MAX}
use Rattle.path_text.specs.Text.{text_fault, parts_of, reading_of}
use Rattle.path_text.specs.Reading.{Reading}
use Rattle.path_text.proofs.TextLemmas.{reading_few}
use Rattle.walk_plan.specs.Plan.{PlanState, IsPlan, most_parts_left, first_part, next_part, after_first, own_after_next, stayed, spliced, through, through_fault, first_fault}

-- ---- lengths

pub after_first_shorter : (parts : List Part) → length (after_first parts) ≤ length parts
after_first_shorter [] = omega arith
after_first_shorter (part ∷ parts) = omega arith

pub own_after_next_shorter : (inner own : List Part) → length (own_after_next inner own) ≤ length own
own_after_next_shorter [] own = after_first_shorter own
own_after_next_shorter (part ∷ inner) own = omega arith

-- a next part that is taken off leaves one part less
pub one_part_less : (inner own : List Part) → IsSome (first_part (inner ++ own)) → length (after_first inner) + length (own_after_next inner own) + 1 ≡ length inner + length own
one_part_less [] [] h = cc
one_part_less [] (part ∷ own) h = omega arith
one_part_less (part ∷ inner) own h = omega arith

-- ---- a link that is followed

first_fault_none : (fault later : Option Errno) → first_fault fault later ≡ None → (fault ≡ None) × (later ≡ None)
first_fault_none None later h = (refl, h)
first_fault_none (Some fault) later h = cc

not_refused : (forbidden used_up : Bool) (later : Option Errno) → (if forbidden || used_up then Some Loop else later) ≡ None → (used_up ≡ false) × (later ≡ None)
not_refused true used_up later h = cc
not_refused false true later h = cc
not_refused false false later h = (refl, h)

-- where a link is followed, one was left, and its text has no fault
pub followed : (p : PlanState) (text : List ℕ) → through_fault p text ≡ None → (0 < p.links_left) × (text_fault text ≡ None)
followed p text h =
    let passed = not_refused p.flags.no_links (p.links_left == 0) _ h in
    let left = passed.0 in
    (grind (arith, nat_tests), (first_fault_none (text_fault text) _ passed.1).0)

-- ---- what stays true of a plan

pub IsPlan-spliced : (p : PlanState) (text : Reading) → IsPlan p → length text.parts ≤ PARTS_MAX → 0 < p.links_left → IsPlan (spliced p text)
IsPlan-spliced p text is_plan few left =
    let own = own_after_next_shorter p.inner p.own in
    let inner = after_first_shorter p.inner in
    let both = length-append text.parts (after_first p.inner) in
    record { few_links = omega arith; few_own = omega arith; few_inner = omega arith }

pub plan_followed : (p q : PlanState) (text : List ℕ) → IsPlan p → text_fault text ≡ None → 0 < p.links_left → q.inner ≡ parts_of text ++ after_first p.inner → q.own ≡ own_after_next p.inner p.own → q.links_left ≡ p.links_left - 1 → IsPlan q
plan_followed p q text is_plan none left inner own links =
    let h = IsPlan-spliced p (reading_of text) is_plan (reading_few text none) left in
    record { few_links = rw links h.few_links; few_own = rw own h.few_own; few_inner = rw (inner, links) h.few_inner }

pub IsPlan-through : (p : PlanState) (text : List ℕ) → IsPlan p → through_fault p text ≡ None → IsPlan (through p text)
IsPlan-through p text is_plan none =
    let h = followed p text none in
    IsPlan-spliced p (reading_of text) is_plan (reading_few text h.1) h.0

-- ---- what lowers the parts that are left at most

pub stayed_lowers : (p : PlanState) → IsSome (next_part p) → most_parts_left (stayed p) < most_parts_left p
stayed_lowers p next = omega (arith, one_part_less p.inner p.own next)

pub through_lowers : (p : PlanState) (text : List ℕ) → IsSome (next_part p) → through_fault p text ≡ None → most_parts_left (through p text) < most_parts_left p
through_lowers p text next none =
    let h = followed p text none in
    let few = reading_few text h.1 in
    let both = length-append (parts_of text) (after_first p.inner) in
    let left = h.0 in
    omega (arith, one_part_less p.inner p.own next)
