-- What a walk's first turn can be: nothing is held at the root itself, so that without memory it fails as a first step does
-- that wasn't made for want of it.
use Rattle.std.proofs.Common.{◌≡◌, List, [], ◌∷◌, Bool, true, false, if◌then◌else◌, ℕ, refl, sym, subst, inl}
use Rattle.std.specs.Prelude.{Option, Some, None}
use Rattle.path_text.specs.declared.errno.Errno.TheVariants.{NoMemory, CrossRoot, TooLong}
use Rattle.path_text.specs.Reading.{Reading}
use Rattle.tree_model.specs.declared.answer.Answer.TheVariants.{Refused}
use Rattle.walk_plan.specs.Plan.{PlanState, leads_out}
use Rattle.step_resolver.specs.Asked.{AskedPart, Cur, Up, Named, asked, follows}
use Rattle.step_resolver.specs.Meaning.{LINKS_MAX, is_too_long}
use Rattle.step_resolver.specs.Order.{Way, root_itself, holds, Todo, todo, Walking, opening, reading, rising, judging, duping, ending, closing, Turn, more, found, partial, failed, in_directory, on_own, on_parts, goes_on, begins, for_walk, starts, take, due, is_close, LeadsTo}
use Rattle.handles.specs.Objects.{ReachedObject}
use Rattle.step_resolver.specs.View.{walking_of, HoldsNothing, IsPending}
use Rattle.step_resolver.specs.TurnsTell.{first_lines}
use Rattle.step_resolver.specs.declared.pending.Pending.{Pending}
use Rattle.step_resolver.specs.declared.pending.Pending.TheVariants as pending
use Rattle.step_resolver.specs.TurnView.{IsFirstWalk}

abbrev pub IsFirst : Turn → Type 0
IsFirst (more walk) = IsFirstWalk walk
IsFirst (found handle names) = ⊥
IsFirst (partial handle names rest) = ⊥
IsFirst (failed error) = Unit {0}

either : (b : Bool) (t u : Turn) → IsFirst t → IsFirst u → IsFirst (if b then t else u)
either true t u first other = first
either false t u first other = other

module _ (way : Way) where
  at_the_root : (p : AskedPart) (own : Bool) (rest : Todo) (passed : Turn) → IsFirst passed → IsFirst (in_directory way root_itself p own rest passed)
  at_the_root Cur own rest passed first = first
  at_the_root Up own rest passed first = either way.flags.beneath (failed CrossRoot) passed tt first
  at_the_root (Named follow n) own rest passed first = either (is_too_long n) (failed TooLong) (more (opening root_itself own follow n rest)) tt tt

  own_first : (own : List AskedPart) (b : ℕ) → IsFirst (on_own way root_itself own b)
  own_first [] b = tt
  own_first (p ∷ own) b = at_the_root p true (todo [] own b) (on_own way root_itself own b) (own_first own b)

  parts_first : (inner own : List AskedPart) (b : ℕ) → IsFirst (on_parts way root_itself inner own b)
  parts_first [] own b = own_first own b
  parts_first (p ∷ inner) own b = at_the_root p false (todo inner own b) (on_parts way root_itself inner own b) (parts_first inner own b)

  from_root : (rest : Todo) → IsFirst (goes_on way root_itself rest)
  from_root (todo inner own b) = parts_first inner own b

  pub begins_first : (path : Reading) → IsFirst (begins way path)
  begins_first path =
      either (leads_out path.absolute way.flags) (failed CrossRoot) (goes_on way root_itself (todo [] (asked (follows way.goal) path.parts) LINKS_MAX)) tt
      (from_root (todo [] (asked (follows way.goal) path.parts) LINKS_MAX))

  -- the first step isn't made for want of memory
  pub fails_for_want : (room : Bool) (walk : Walking) → IsFirstWalk walk → take way room walk (Refused NoMemory) ≡ failed NoMemory
  fails_for_want room (opening root_itself own follow n (todo inner rest b)) first = refl
  fails_for_want room (opening (holds handle names) own follow n rest) first = absurd first
  fails_for_want room (reading position link rest) first = absurd first
  fails_for_want room (rising handle names rest) first = absurd first
  fails_for_want room (judging handle names rest) first = absurd first
  fails_for_want room (duping rest) first = refl
  fails_for_want room (ending handle names rest) first = absurd first
  fails_for_want room (closing h hs after) first = absurd first

  no_closing : (walk : Walking) → IsFirstWalk walk → is_close (due way walk) ≡ false
  no_closing (opening position own follow n rest) first = refl
  no_closing (reading position link rest) first = refl
  no_closing (rising handle names rest) first = refl
  no_closing (judging handle names rest) first = refl
  no_closing (duping rest) first = refl
  no_closing (ending handle names rest) first = refl
  no_closing (closing h hs after) first = absurd first

  lines_lead : (room : Bool) (turn : Turn) → IsFirst turn → LeadsTo way turn (first_lines room turn) (for_walk room turn)
  lines_lead true turn first = refl
  lines_lead false (more walk) first = ((inl refl, no_closing walk first), fails_for_want true walk first)
  lines_lead false (found handle names) first = refl
  lines_lead false (partial handle names rest) first = refl
  lines_lead false (failed error) first = refl

  -- the lines up to the first turn lead to it
  pub first_lines_lead : (room : Bool) (path : Reading) → LeadsTo way (begins way path) (first_lines room (begins way path)) (starts way room path)
  first_lines_lead room path = lines_lead room (begins way path) (begins_first path)

-- ---- the pending step

by_step : (p : PlanState) (place : Option ReachedObject) (step : Pending) → IsFirstWalk (walking_of p place step) → IsPending p place step → HoldsNothing place step
by_step p None pending.Opening first is = (refl, tt)
by_step p (Some held) pending.Opening first is = absurd first
by_step p place (pending.Reading link) first is = absurd first
by_step p None pending.Rising first is = (refl, tt)
by_step p (Some held) pending.Rising first is = absurd first
by_step p None pending.Judging first is = (refl, tt)
by_step p (Some held) pending.Judging first is = absurd first
by_step p place pending.Duping first is = (is.0, tt)
by_step p None pending.Ending first is = (refl, tt)
by_step p (Some held) pending.Ending first is = absurd first
by_step p place (pending.Closing first_closed second after) first is = absurd first

pub first_holds_nothing : (way : Way) (rest : Todo) (p : PlanState) (place : Option ReachedObject) (step : Pending) → more (walking_of p place step) ≡ goes_on way root_itself rest → IsPending p place step → HoldsNothing place step
first_holds_nothing way rest p place step e is = by_step p place step (subst IsFirst (sym e) (from_root way rest)) is
