-- What is known of a call that clears: which directories it holds, and how each was reached; what it did; and how many steps
-- it made.
use Rattle.std.specs.Prelude.{◌≡◌, ◌≢◌, ℕ, zero, suc, ◌+◌, ◌≤◌, ◌==◌, ◌⊎◌, List, [], ◌∷◌, Bool, true, false, drop, length, Option, Some, None, refl}
use Rattle.std.proofs.Common.{sym, ap, subst, ◌∙◌, inl, inr, le_trans, eqb-true, arith}
use Rattle.std.proofs.lemmas.Bool.{eqb-false, false≢true}
use Rattle.std.proofs.lemmas.Option.{none-some}
use Rattle.path_text.specs.declared.errno.Errno.{Errno}
use Rattle.path_text.specs.declared.errno.Errno.TheVariants.{Busy}
use Rattle.tree_model.specs.declared.answer.Answer.{Answer}
use Rattle.tree_model.specs.StepWith.{StepWith}
use Rattle.tree_model.specs.State.{child, is_directory, put_at}
use Rattle.step_resolver.specs.Trail.{Timeline}
use Rattle.step_resolver.specs.Order.{Line}
use Rattle.step_resolver.specs.WalkHistory.{WalkInHistory, state_at, timeline}
use Rattle.step_resolver.specs.Failures.{TellsWant}
use Rattle.step_resolver.proofs.Underway.StepOutcomes.{IsMore, IsLess}
use Rattle.step_resolver.proofs.Underway.WalkInvariant.{held_at, IsNotIn, AllNew, new_or_out}
use Rattle.step_resolver.proofs.Underway.LegalHistory.{IsAlone, before_or_from, less_or_same}
use Rattle.bulk_ops.specs.declared.remove_all.clearing.TheConstants.{CLEARING_STEPS_MAX}
use Rattle.bulk_ops.specs.RemoveAllOrder.{Level, Stage, removes_file, opens, lists, shuts, leaves, removes_dir, End, fails, removes, walking, clearing, closing, Turn, more, removed, failed, dirs, before, closes, is_due}
use Rattle.bulk_ops.specs.RemoveAllTells.{Down, here, under, outermost, removals, one_more_if, event_at, TakesAway, LeavesEntries, IsOn, ClosesAt, AllClose, TellsFault}

-- ---- handles

-- these handles are the call's own, and the others are as `b` has them
pub record Holds (c : WalkInHistory) (b : ℕ → Option ℕ) (m : ℕ) (hs : List ℕ) : Type 0 where
  pub others : (k : ℕ) → IsNotIn k hs → held_at c m k ≡ b k
  pub fresh : AllNew b hs

pub holds_kept : {c : WalkInHistory} {b : ℕ → Option ℕ} {m t : ℕ} {hs : List ℕ} → ((h : ℕ) → held_at c t h ≡ held_at c m h) → Holds c b m hs → Holds c b t hs
holds_kept kept is = record { others = λ k out. kept k ∙ is.others k out; fresh = is.fresh }

pub holds_more : {c : WalkInHistory} {b : ℕ → Option ℕ} {t h x : ℕ} {hs : List ℕ} → Holds c b t hs
    → IsMore (state_at c t) c.actor (state_at c (suc t)) h x → Holds c b (suc t) (h ∷ hs)
holds_more {c} {b} {t} {h} {x} {hs} is new = record {
  others = λ k out. new.others k out.0 ∙ is.others k out.1;
  fresh = (on (new_or_out b h hs is.fresh), is.fresh);
}
  where
    on : IsNotIn h hs ⊎ (b h ≡ None) → b h ≡ None
    on (inl out) = sym (is.others h out) ∙ new.fresh
    on (inr none) = none

pub holds_less : {c : WalkInHistory} {b : ℕ → Option ℕ} {t h : ℕ} {hs : List ℕ} → Holds c b t (h ∷ hs)
    → IsLess (state_at c t) c.actor (state_at c (suc t)) h → Holds c b (suc t) hs
holds_less {c} {b} {t} {h} {hs} is gone = record { others = λ k out. on k out (k == h) refl; fresh = is.fresh.1 }
  where
    on : (k : ℕ) → IsNotIn k hs → (q : Bool) → (k == h) ≡ q → held_at c (suc t) k ≡ b k
    on k out true e = ap (held_at c (suc t)) (eqb-true k h e) ∙ gone.closed ∙ sym is.fresh.0 ∙ ap b (sym (eqb-true k h e))
    on k out false e = gone.others k (eqb-false k h e) ∙ is.others k (eqb-false k h e, out)

-- these handles are the same at both moments
abbrev pub Same : WalkInHistory → ℕ → ℕ → List ℕ → Type 0
Same c now k [] = Unit {0}
Same c now k (h ∷ hs) = (held_at c k h ≡ held_at c now h) × Same c now k hs

pub same_all : (c : WalkInHistory) (now k : ℕ) (hs : List ℕ) → ((h : ℕ) → held_at c k h ≡ held_at c now h) → Same c now k hs
same_all c now k [] same = tt
same_all c now k (h ∷ hs) same = (same h, same_all c now k hs same)

pub same_but : (c : WalkInHistory) (now k x : ℕ) (hs : List ℕ) → IsNotIn x hs → ((h : ℕ) → h ≢ x → held_at c k h ≡ held_at c now h) → Same c now k hs
same_but c now k x [] out same = tt
same_but c now k x (h ∷ hs) out same = (same h (λ e. out.0 (sym e)), same_but c now k x hs out.1 same)

-- ---- directories

pub down_later : {timeline : Timeline} {dir x m k : ℕ} {names : List (List ℕ)} → m ≤ k → Down timeline dir names x m → Down timeline dir names x k
down_later {k = k} le (here m) = here k
down_later {k = k} le (under name t x m way at is d past) = under name t x k way at is d (le_trans past le)

-- a directory below the target, or the target, was reached by names alone, and is open
pub record Inner (c : WalkInHistory) (dir : ℕ) (target : List ℕ) (now h : ℕ) : Type 0 where
  pub node : ℕ
  pub name : List ℕ
  pub names : List (List ℕ)
  pub way : Down (timeline c) dir (name ∷ names) node now
  pub below : outermost name names ≡ target
  pub is_open : held_at c now h ≡ Some node
  pub is_dir : is_directory ((timeline c).object_of node) ≡ true

-- the directory of the walk is open, and only the target is to be cleared in it
pub record Bottom (c : WalkInHistory) (dir : ℕ) (target : List ℕ) (now : ℕ) (level : Level) : Type 0 where
  pub is_open : held_at c now level.dir ≡ Some dir
  pub name : level.name ≡ target
  pub none : level.others ≡ []

abbrev pub IsAt : WalkInHistory → ℕ → List ℕ → ℕ → Level → List Level → Type 0
IsAt c dir target now level [] = Bottom c dir target now level
IsAt c dir target now level (u ∷ us) =
    Inner c dir target now level.dir × (IsNotIn level.dir (dirs (u ∷ us)) × IsAt c dir target now u us)

pub inner_moved : {c : WalkInHistory} {dir now k h : ℕ} {target : List ℕ} → now ≤ k → held_at c k h ≡ held_at c now h → Inner c dir target now h → Inner c dir target k h
inner_moved le same is = record {
  node = is.node;
  name = is.name;
  names = is.names;
  way = down_later le is.way;
  below = is.below;
  is_open = same ∙ is.is_open;
  is_dir = is.is_dir;
}

pub at_moved : (c : WalkInHistory) (dir : ℕ) (target : List ℕ) (now k : ℕ) (level : Level) (above : List Level) → now ≤ k → Same c now k (dirs (level ∷ above))
    → IsAt c dir target now level above → IsAt c dir target k level above
at_moved c dir target now k level [] le same is = record { is_open = same.0 ∙ is.is_open; name = is.name; none = is.none }
at_moved c dir target now k level (u ∷ us) le same is =
    (inner_moved le same.0 is.0, (is.1.0, at_moved c dir target now k u us le same.1 is.1.1))

-- what is opened next isn't one of them
pub new_is_out : (c : WalkInHistory) (dir : ℕ) (target : List ℕ) (now : ℕ) (level : Level) (above : List Level) (h : ℕ) → held_at c now h ≡ None
    → IsAt c dir target now level above → IsNotIn h (dirs (level ∷ above))
new_is_out c dir target now level [] h none is = ((λ e. none-some dir (sym none ∙ ap (held_at c now) e ∙ is.is_open)), tt)
new_is_out c dir target now level (u ∷ us) h none is =
    ((λ e. none-some is.0.node (sym none ∙ ap (held_at c now) e ∙ is.0.is_open)), new_is_out c dir target now u us h none is.1.1)

-- the directory of the entry under way
pub record Spot (c : WalkInHistory) (dir : ℕ) (target : List ℕ) (now : ℕ) (level : Level) : Type 0 where
  pub node : ℕ
  pub names : List (List ℕ)
  pub way : Down (timeline c) dir names node now
  pub below : outermost level.name names ≡ target
  pub is_open : held_at c now level.dir ≡ Some node
  pub outer : is_directory ((timeline c).object_of node) ≡ false → node ≡ dir

abbrev pub spot : (c : WalkInHistory) (dir : ℕ) (target : List ℕ) (now : ℕ) (level : Level) (above : List Level) → IsAt c dir target now level above → Spot c dir target now level
spot c dir target now level [] is = record { node = dir; names = []; way = here now; below = is.name; is_open = is.is_open; outer = λ e. refl }
spot c dir target now level (u ∷ us) is = record {
  node = is.0.node;
  names = is.0.name ∷ is.0.names;
  way = is.0.way;
  below = is.0.below;
  is_open = is.0.is_open;
  outer = λ e. absurd (false≢true (sym e ∙ is.0.is_dir));
}

-- what was opened by the name under way
abbrev pub IsAtStage : WalkInHistory → ℕ → List ℕ → ℕ → Stage → Level → List Level → Type 0
IsAtStage c dir target now removes_file level above = Unit {0}
IsAtStage c dir target now opens level above = Unit {0}
IsAtStage c dir target now (lists h) level above = Inner c dir target now h × IsNotIn h (dirs (level ∷ above))
IsAtStage c dir target now (shuts h) level above = IsNotIn h (dirs (level ∷ above))
IsAtStage c dir target now (leaves h) level above = IsNotIn h (dirs (level ∷ above))
IsAtStage c dir target now removes_dir level above = Unit {0}

-- ---- what was done

-- each own event before now leaves all entries, or takes one away
pub record TookAway (c : WalkInHistory) (dir : ℕ) (target : List ℕ) (now : ℕ) : Type 0 where
  pub each : (t : ℕ) → suc t ≤ now → (timeline c).is_own t ≡ true → LeavesEntries c t ⊎ TakesAway c dir target t

-- what holds of each own event before now, and of that at t, holds of each up to t
pub up_to : {c : WalkInHistory} {now t : ℕ} (P : ℕ → Type 0) → IsAlone c now t → ((k : ℕ) → suc k ≤ now → (timeline c).is_own k ≡ true → P k) → P t
    → (k : ℕ) → suc k ≤ suc t → (timeline c).is_own k ≡ true → P k
up_to {c} {now} {t} P alone first here_too k le own = on (less_or_same k t le)
  where
    on_less : suc k ≤ t → (suc k ≤ now) ⊎ (now ≤ k) → P k
    on_less less (inl early) = first k early own
    on_less less (inr late) = absurd (false≢true (sym (alone.none k late less) ∙ own))

    on : (suc k ≤ t) ⊎ (k ≡ t) → P k
    on (inl less) = on_less less (before_or_from k now)
    on (inr same) = subst P (sym same) here_too

-- the entries so far, the count, and the steps: so many were made, and so many are left
pub record Tally (c : WalkInHistory) (dir : ℕ) (target : List ℕ) (now : ℕ) (lines : List Line) (count left : ℕ) : Type 0 where
  pub took : TookAway c dir target now
  pub counted : removals c.lines ≡ count + removals lines
  pub made : ℕ
  pub rest : drop made c.lines ≡ lines
  pub enough : made ≤ length c.lines
  pub steps : made + left ≡ CLEARING_STEPS_MAX

drop_next : (xs : List Line) (made : ℕ) (line : Line) (lines : List Line) → drop made xs ≡ line ∷ lines → (drop (suc made) xs ≡ lines) × (suc made ≤ length xs)
drop_next [] zero line lines e = cc (e)
drop_next [] (suc made) line lines e = cc (e)
drop_next (x ∷ xs) zero line lines e = (ap (drop (suc zero)) e, omega arith)
drop_next (x ∷ xs) (suc made) line lines e = let on = drop_next xs made line lines e in (on.0, omega (arith, on.1))

pub wants_of_rest : (error : Errno) (xs : List Line) (made : ℕ) → TellsWant error (drop made xs) → TellsWant error xs
wants_of_rest error xs zero want = want
wants_of_rest error [] (suc made) want = want
wants_of_rest error (x ∷ xs) (suc made) want = inr (wants_of_rest error xs made want)

-- one step more, whose event is the one at t
pub tally_next : {c : WalkInHistory} {dir now t count left : ℕ} {target : List ℕ} {line : Line} {lines : List Line} (takes : Bool)
    → Tally c dir target now (line ∷ lines) count (suc left) → removals (line ∷ lines) ≡ one_more_if takes (removals lines)
    → IsAlone c now t → LeavesEntries c t ⊎ TakesAway c dir target t → Tally c dir target (suc t) lines (one_more_if takes count) left
tally_next {c} {dir} {now} {t} {count} {left} {target} {line} {lines} takes is e alone row = record {
  took = record { each = up_to (λ k. LeavesEntries c k ⊎ TakesAway c dir target k) alone is.took.each row };
  counted = on takes e;
  made = suc is.made;
  rest = (drop_next c.lines is.made line lines is.rest).0;
  enough = (drop_next c.lines is.made line lines is.rest).1;
  steps = omega (arith, is.steps);
}
  where
    on : (b : Bool) → removals (line ∷ lines) ≡ one_more_if b (removals lines) → removals c.lines ≡ one_more_if b count + removals lines
    on true q = omega (arith, is.counted, q)
    on false q = is.counted ∙ ap (λ n. count + n) q

-- ---- the end

-- as `IsLastOnTarget`, up to now
pub record LastSoFar (c : WalkInHistory) (dir : ℕ) (target : List ℕ) (now : ℕ) : Type 0 where
  pub when : ℕ
  pub own : (timeline c).is_own when ≡ true
  pub handle : ℕ
  pub is_open : held_at c when handle ≡ Some dir
  pub step : StepWith ℕ
  pub answer : Answer
  pub event : event_at c when step answer
  pub on : IsOn handle target step
  pub ended : (child ((timeline c).nodes_at when) dir target ≡ None)
      ⊎ ((entry : ℕ) × ((child ((timeline c).nodes_at when) dir target ≡ Some entry)
      × ((timeline c).nodes_at (suc when) ≡ put_at ((timeline c).nodes_at when) entry None)))
  pub since : (t : ℕ) → suc t ≤ now → (timeline c).is_own t ≡ true → suc when ≤ t → ClosesAt c t

pub record Faults (c : WalkInHistory) (dir : ℕ) (target : List ℕ) (b : ℕ → Option ℕ) (now : ℕ) (lines : List Line) (hs : List ℕ) (error : Errno) : Type 0 where
  pub cause : AllClose lines → TellsFault c dir error
  pub holds : Holds c b now hs
  pub took : TookAway c dir target now

pub record Finishes (c : WalkInHistory) (dir : ℕ) (target : List ℕ) (b : ℕ → Option ℕ) (now : ℕ) (lines : List Line) (hs : List ℕ) (count : ℕ) : Type 0 where
  pub counted : removals c.lines ≡ count + removals lines
  pub holds : Holds c b now hs
  pub took : TookAway c dir target now
  pub last : LastSoFar c dir target now

pub record Clears (c : WalkInHistory) (dir : ℕ) (target : List ℕ) (b : ℕ → Option ℕ) (now : ℕ) (lines : List Line) (stage : Stage) (level : Level) (above : List Level) (count left : ℕ) : Type 0 where
  pub at : IsAt c dir target now level above
  pub stage_at : IsAtStage c dir target now stage level above
  pub holds : Holds c b now (before stage (dirs (level ∷ above)))
  pub tally : Tally c dir target now lines count left

abbrev pub Ends : WalkInHistory → ℕ → List ℕ → (ℕ → Option ℕ) → ℕ → List Line → List ℕ → End → Type 0
Ends c dir target b now lines hs (fails error) = Faults c dir target b now lines hs error
Ends c dir target b now lines hs (removes count) = Finishes c dir target b now lines hs count

-- what is known of a turn, with these lines to come
abbrev pub Good : WalkInHistory → ℕ → List ℕ → (ℕ → Option ℕ) → ℕ → List Line → Turn → Type 0
Good c dir target b now lines (more (walking way name w)) = ⊥
Good c dir target b now lines (more (clearing stage level above count left)) = Clears c dir target b now lines stage level above count (suc left)
Good c dir target b now lines (more (closing h hs end)) = Ends c dir target b now lines (h ∷ hs) end
Good c dir target b now lines (removed count) = Ends c dir target b now lines [] (removes count)
Good c dir target b now lines (failed error) = Ends c dir target b now lines [] (fails error)

module _ (c : WalkInHistory) (dir : ℕ) (target : List ℕ) (b : ℕ → Option ℕ) (now : ℕ) (lines : List Line) where
  pub closes_good : (hs : List ℕ) (end : End) → Ends c dir target b now lines hs end → Good c dir target b now lines (closes hs end)
  closes_good [] (fails error) is = is
  closes_good [] (removes count) is = is
  closes_good (h ∷ hs) end is = is

  pub due_good : (stage : Stage) (level : Level) (above : List Level) (count left : ℕ) → Clears c dir target b now lines stage level above count left
      → Good c dir target b now lines (is_due stage level above count left)
  due_good stage level above count zero is = closes_good (before stage (dirs (level ∷ above))) (fails Busy) (record {
    cause = λ close. record {
      enough = omega (arith, is.tally.enough, is.tally.steps);
      closings = subst (λ (k : ℕ). AllClose (drop k c.lines)) all_made (subst AllClose (sym is.tally.rest) close);
    };
    holds = is.holds;
    took = is.tally.took;
  })
    where
      all_made : is.tally.made ≡ CLEARING_STEPS_MAX
      all_made = omega (arith, is.tally.steps)
  due_good stage level above count (suc left) is = is
