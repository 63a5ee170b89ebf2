-- A resolve's last line is the question where its object stands, at which the names passed were told.
use Rattle.std.proofs.Common.{◌≡◌, ℕ, Bool, true, false, List, [], ◌∷◌, ◌++◌, reverse, refl, sym, ap, ◌∙◌, subst}
use Rattle.std.specs.Prelude.{Option, Some, None}
use Rattle.path_text.specs.declared.errno.Errno.{Errno}
use Rattle.path_text.specs.Text.{reading_of}
use Rattle.tree_model.specs.declared.answer.Answer.{Answer}
use Rattle.tree_model.specs.declared.answer.Answer.TheVariants.{Names, Refused}
use Rattle.tree_model.specs.StepWith.{StepWith}
use Rattle.tree_model.specs.declared.step.StepOf.TheVariants.{NameBelow}
use Rattle.walk_plan.specs.declared.goal.Goal.{Goal}
use Rattle.step_resolver.specs.Order.{Way, Handle, Line, answered, no_room, not_made, ending, Turn, more, found, partial, failed, begins, take, LeadsTo}
use Rattle.step_resolver.specs.View.{way_from}
use Rattle.root_ops.specs.declared.aim.Aim.TheVariants.{Opens}
use Rattle.root_ops.specs.declared.below.Below.{Below}
use Rattle.root_ops.specs.Order.{ends, opened, walked, unless_fault}
use Rattle.root_ops.specs.Order as calls
use Rattle.kernel_walks.proofs.AtQuestion.{not_found, begins_not_found, found_asks}
use Rattle.kernel_walks.proofs.SeenBelow.{IsQuestion}

-- the question where the object stands, with these names
abbrev pub asks : ℕ → Handle → List (List ℕ) → Line
asks root handle names = answered (NameBelow root handle.number) (Names names)

-- two lists that are the same have the same last line
same_last : (xs ys : List Line) (x y : Line) → xs ++ x ∷ [] ≡ ys ++ y ∷ [] → (xs ≡ ys) × (x ≡ y)
same_last [] [] x y e = (refl, cc (e))
same_last [] (b ∷ []) x y e = cc (e)
same_last [] (b ∷ c ∷ ys) x y e = cc (e)
same_last (a ∷ []) [] x y e = cc (e)
same_last (a ∷ c ∷ xs) [] x y e = cc (e)
same_last (a ∷ xs) (b ∷ ys) x y e =
    let head : a ≡ b = cc (e) in
    let tail : xs ++ x ∷ [] ≡ ys ++ y ∷ [] = cc (e) in
    let rest = same_last xs ys x y tail in
    (ap (λ l. l ∷ xs) head ∙ ap (λ ls. b ∷ ls) rest.0, rest.1)

-- a resolve is led as its walk is
walk_led : (below : Below) (goal : Goal) (room : Bool) (turn : Turn) (lines : List Line) (handle : Handle) (names : List (List ℕ))
    → calls.LeadsTo below (walked below room (Opens goal) turn) lines (ends (opened handle names))
    → LeadsTo (way_from below.root goal below.flags) turn lines (found handle names)
walk_led below goal room (more w) [] handle names leads = cc (leads)
walk_led below goal room (more w) (answered step answer ∷ lines) handle names leads =
    (leads.0, walk_led below goal true (take (way_from below.root goal below.flags) true w answer) lines handle names leads.1)
walk_led below goal room (more w) (no_room step answer ∷ lines) handle names leads =
    (leads.0, walk_led below goal false (take (way_from below.root goal below.flags) false w answer) lines handle names leads.1)
walk_led below goal room (more w) (not_made error ∷ lines) handle names leads =
    (leads.0, walk_led below goal true (take (way_from below.root goal below.flags) true w (Refused error)) lines handle names leads.1)
walk_led below goal room (found h ns) [] handle names leads = cc (leads)
walk_led below goal room (found h ns) (line ∷ lines) handle names leads = absurd leads
walk_led below goal room (partial h ns rest) [] handle names leads = cc (leads)
walk_led below goal room (partial h ns rest) (line ∷ []) handle names leads = cc (leads.1)
walk_led below goal room (partial h ns rest) (line ∷ next ∷ lines) handle names leads = absurd leads.1
walk_led below goal room (failed error) [] handle names leads = cc (leads)
walk_led below goal room (failed error) (line ∷ lines) handle names leads = absurd leads

-- The lines before the question lead the walk up to it, and the names passed were told there.
pub record LooksUp (way : Way) (turn : Turn) (front : List Line) (root : ℕ) (handle : Handle) (told names : List (List ℕ)) : Type 0 where
  pub led : LeadsTo way turn front (more (ending handle names []))
  pub root_is : root ≡ way.root
  pub told_is : told ≡ reverse names

same_root : (a b h : ℕ) (x y : StepWith ℕ) → x ≡ NameBelow a h → y ≡ NameBelow b h → x ≡ y → a ≡ b
same_root a b h x y e f same = cc (e, f, same)

same_told : (a b : List (List ℕ)) (x y : Answer) → x ≡ Names a → y ≡ Names b → x ≡ y → a ≡ b
same_told a b x y e f same = cc (e, f, same)

looks_up : (way : Way) (turn : Turn) (front : List Line) (root : ℕ) (handle : Handle) (told names : List (List ℕ)) → not_found turn
    → LeadsTo way turn (front ++ asks root handle told ∷ []) (found handle names) → LooksUp way turn front root handle told names
looks_up way turn front root handle told names none leads =
    let at = found_asks way handle names turn (front ++ asks root handle told ∷ []) none leads in
    let same = same_last front at.front (asks root handle told) at.last at.whole in
    let question = subst (IsQuestion way handle (reverse names)) (sym same.1) at.question in
    record {
      led = subst (λ ls. LeadsTo way turn ls (more (ending handle names []))) (sym same.0) at.led;
      root_is = same_root root way.root handle.number (NameBelow root handle.number) (NameBelow way.root handle.number) refl refl question.0;
      told_is = same_told told (reverse names) (Names told) (Names (reverse names)) refl refl question.1;
    }

pub resolve_looks_up : (below : Below) (goal : Goal) (path : List ℕ) (why : Option Errno) (front : List Line) (root : ℕ) (handle : Handle) (told names : List (List ℕ))
    → calls.LeadsTo below (unless_fault why (calls.walks below (Opens goal) (reading_of path))) (front ++ asks root handle told ∷ []) (ends (opened handle names))
    → LooksUp (way_from below.root goal below.flags) (begins (way_from below.root goal below.flags) (reading_of path)) front root handle told names
resolve_looks_up below goal path (Some error) front root handle told names leads = absurd (none_led front leads)
  where
    none_led : (ls : List Line) → calls.LeadsTo below (ends (calls.fault error)) (ls ++ asks root handle told ∷ []) (ends (opened handle names)) → ⊥
    none_led [] h = h
    none_led (line ∷ ls) h = h
resolve_looks_up below goal path None front root handle told names leads =
    looks_up (way_from below.root goal below.flags) (begins (way_from below.root goal below.flags) (reading_of path)) front root handle told names
    (begins_not_found (way_from below.root goal below.flags) (reading_of path))
    (walk_led below goal true (begins (way_from below.root goal below.flags) (reading_of path)) (front ++ asks root handle told ∷ []) handle names leads)
