-- A call that is driven on a tree where nobody else acts goes on step by step.
use Rattle.std.proofs.Common.{◌<◌, ◌≡◌, ℕ, Bool, true, false, if◌then◌else◌, List, [], ◌∷◌, ◌++◌, refl, sym, ap, ◌∙◌, subst, inl, inr}
use Rattle.path_text.specs.declared.errno.Errno.TheVariants.{NoMemory}
use Rattle.tree_model.specs.declared.answer.Answer.{Answer}
use Rattle.tree_model.specs.StepWith.{StepWith}
use Rattle.tree_model.specs.State.{State}
use Rattle.tree_model.specs.Steps.{outcome, takes_no_memory}
use Rattle.tree_model.specs.History.{IsLegal, after_events}
use Rattle.tree_model.specs.HistoryLaws.{LegalHistoriesJoin}
use Rattle.step_resolver.specs.Order.{answered, no_room, not_made, events_of}
use Rattle.step_resolver.specs.Order as walk
use Rattle.step_resolver.proofs.DrivenWalks.{joined_events}
use Rattle.root_ops.specs.declared.below.Below.{Below}
use Rattle.root_ops.specs.declared.aim.Aim.{Aim}
use Rattle.root_ops.specs.declared.op.Op.{Op}
use Rattle.handles.specs.Objects.{StandingObject}
use Rattle.tree_model.specs.declared.step.StepOf.TheVariants as steps
use Rattle.step_resolver.specs.View.{WalkView}
use Rattle.step_resolver.specs.TurnView.{TakesTo as WalkTakesTo}
use Rattle.root_ops.specs.declared.aim.Wanted.{Wanted}
use Rattle.root_ops.specs.declared.aim.Wanted.TheVariants as wants
use Rattle.root_ops.specs.Order.{After, gives, closes, Doing, walking, acting, closing, releasing, CallTurn, more, ends, Reply, kept, reply_to, same_owner, releases, walked, due, take, calls, steps_left, way_of, IsUnmade}
use Rattle.root_ops.specs.TurnView.{StartsTo, TakesTo}
use Rattle.step_machine.specs.OnTree.{IsAnswer}
use Rattle.root_ops.specs.Driver.{Drives, Runs, steps_in}
use Rattle.root_ops.proofs.Refusals.{refusal_needs_no_room, unmade}
use Rattle.step_machine.proofs.Closes.{takes_memory}
use Rattle.step_machine.proofs.Runs.{leads_on}
use Rattle.root_ops.proofs.Steps.{IsFewer, take_fewer, a_step_left}

-- ---- what isn't made for want of memory is no Close

want_unmade : (below : Below) (doing : Doing) → takes_no_memory (due below doing) ≡ false → IsUnmade below doing NoMemory
want_unmade below doing e = unmade below doing NoMemory (inl refl) (takes_memory (due below doing) e)

-- ---- step by step

module _ (below : Below) (a : ℕ) (s t : State) (doing : Doing) (answer : Answer) (to : CallTurn) where
  made : (room : Bool) → to ≡ take below room doing answer → answer ≡ (outcome s a (due below doing)).answer → t ≡ (outcome s a (due below doing)).after
      → Drives below a s (more doing) t to
  made true taken told after = record { lines = answered (due below doing) answer ∷ []; leads = (refl, sym taken); legal = (told, tt); after = sym after }
  made false taken told after = record { lines = no_room (due below doing) answer ∷ []; leads = (refl, sym taken); legal = (told, tt); after = sym after }

  -- what the answer to the due step makes of the call is driven by one step
  pub advanced : IsAnswer (due below doing) a s t answer → TakesTo below doing answer to → Drives below a s (more doing) t to
  advanced (inl is) taken = made taken.0 taken.1 is.0 is.1
  advanced (inr is) taken = record {
    lines = not_made NoMemory ∷ [];
    leads = (want_unmade below doing is.0, sym (taken.1 ∙ ap (take below taken.0 doing) is.1 ∙ refusal_needs_no_room below taken.0 doing NoMemory));
    legal = tt;
    after = sym is.2;
  }

-- ---- one after another

pub drives_none : (below : Below) (a : ℕ) (s : State) (turn : CallTurn) → Drives below a s turn s turn
drives_none below a s turn = record { lines = []; leads = refl; legal = tt; after = refl }

pub drives_on : LegalHistoriesJoin → (below : Below) (a : ℕ) (s t u : State) (from mid to : CallTurn)
    → Drives below a s from t mid → Drives below a t mid u to → Drives below a s from u to
drives_on join below a s t u from mid to first second =
    let es = events_of a first.lines in
    let fs = events_of a second.lines in
    let joined = joined_events a first.lines second.lines in
    let both = join s es fs in
    record {
      lines = first.lines ++ second.lines;
      leads = leads_on (calls below) first.lines from mid second.lines to first.leads second.leads;
      legal = subst (IsLegal s) (sym joined) (both.0.1 (first.legal, subst (λ v. IsLegal v fs) (sym first.after) second.legal));
      after = ap (after_events s) joined ∙ both.1 ∙ ap (λ v. after_events v fs) first.after ∙ second.after;
    }

-- ---- a walk of the call

abbrev a_of : Below → ℕ
a_of below = below.root.owner.actor

pub walk_takes : (below : Below) (aim : Aim) (old new : WalkView) (answer : Answer) → old.way ≡ way_of below aim
    → WalkTakesTo old.way old.walking answer (walk.more new.walking) → TakesTo below (walking old.walking aim) answer (more (walking new.walking aim))
walk_takes below aim old new answer same taken =
    let at = subst (λ (way : walk.Way). WalkTakesTo way old.walking answer (walk.more new.walking)) same taken in
    (at.0, ap (walked below at.0 aim) at.1)

-- by one answer more, after which it goes on
pub walk_driven_on : LegalHistoriesJoin → (below : Below) (aim : Aim) (s t u : State) (from : CallTurn) (old new : WalkView) (answer : Answer) → old.way ≡ way_of below aim
    → IsAnswer (walk.due old.way old.walking) (a_of below) t u answer → WalkTakesTo old.way old.walking answer (walk.more new.walking)
    → Drives below (a_of below) s from t (more (walking old.walking aim)) → Drives below (a_of below) s from u (more (walking new.walking aim))
walk_driven_on join below aim s t u from old new answer same is taken first =
    let a = a_of below in
    let here = subst (λ (way : walk.Way). IsAnswer (walk.due way old.walking) a t u answer) same is in
    drives_on join below a s t u from (more (walking old.walking aim)) (more (walking new.walking aim)) first
    (advanced below a t u (walking old.walking aim) answer (more (walking new.walking aim)) here (walk_takes below aim old new answer same taken))

-- by its last answer, and what comes after it
pub walk_driven_out : LegalHistoriesJoin → (below : Below) (aim : Aim) (s t u : State) (from to : CallTurn) (w : WalkView) (answer : Answer) → w.way ≡ way_of below aim
    → IsAnswer (walk.due w.way w.walking) (a_of below) t u answer → TakesTo below (walking w.walking aim) answer to
    → Drives below (a_of below) s from t (more (walking w.walking aim)) → Drives below (a_of below) s from u to
walk_driven_out join below aim s t u from to w answer same is taken first =
    let a = a_of below in
    let here = subst (λ (way : walk.Way). IsAnswer (walk.due way w.walking) a t u answer) same is in
    drives_on join below a s t u from (more (walking w.walking aim)) to first (advanced below a t u (walking w.walking aim) answer to here taken)

-- ---- closings

pub closed_one : (below : Below) (s t : State) (h : ℕ) (hs : List ℕ) (after : After) (told : Answer) → IsAnswer (steps.Close h) (a_of below) s t told
    → Drives below (a_of below) s (closes (h ∷ hs) after) t (closes hs after)
closed_one below s t h hs after told is = advanced below (a_of below) s t (closing h hs after) told (closes hs after) is (true, refl)

pub closed_two : LegalHistoriesJoin → (below : Below) (s t u : State) (h k : ℕ) (hs : List ℕ) (after : After) (told other : Answer)
    → IsAnswer (steps.Close h) (a_of below) s t told → IsAnswer (steps.Close k) (a_of below) t u other
    → Drives below (a_of below) s (closes (h ∷ k ∷ hs) after) u (closes hs after)
closed_two join below s t u h k hs after told other first second =
    drives_on join below (a_of below) s t u (closes (h ∷ k ∷ hs) after) (closes (k ∷ hs) after) (closes hs after)
    (closed_one below s t h (k ∷ hs) after told first) (closed_one below t u k hs after other second)

-- the call's own step, and the closings after it
pub finished : LegalHistoriesJoin → (below : Below) (s t u : State) (wanted : Wanted) (step : StepWith ℕ) (hs : List ℕ) (answer : Answer) (reply : Reply)
    → IsAnswer step (a_of below) s t answer → ((r : Reply) → Drives below (a_of below) t (closes hs (gives r)) u (ends r)) → reply ≡ reply_to wanted answer
    → Drives below (a_of below) s (more (acting wanted step hs)) u (ends reply)
finished join below s t u wanted step hs answer reply is closings told =
    let r = reply_to wanted answer in
    subst (λ z. Drives below (a_of below) s (more (acting wanted step hs)) u (ends z)) (sym told)
    (drives_on join below (a_of below) s t u (more (acting wanted step hs)) (closes hs (gives r)) (ends r)
    (advanced below (a_of below) s t (acting wanted step hs) answer (closes hs (gives r)) is (true, refl)) (closings r))

-- ---- fewer steps

fewer_in : (k : ℕ) (below : Below) (turn : CallTurn) → 0 < k → IsFewer below k turn → steps_in below turn < k
fewer_in k below (more doing) some fewer = fewer
fewer_in k below (ends reply) some fewer = some

pub taken_fewer : (below : Below) (doing : Doing) (answer : Answer) (turn : CallTurn) → TakesTo below doing answer turn → steps_in below turn < steps_left below doing
taken_fewer below doing answer turn taken =
    fewer_in (steps_left below doing) below turn (a_step_left below doing)
    (subst (IsFewer below (steps_left below doing)) (sym taken.1) (take_fewer below taken.0 doing answer))

-- ---- what needs no walk

pub released : (below : Below) (standing : StandingObject) (s t : State) (answer : Answer) (reply : Reply) → same_owner standing.owner below.root.owner ≡ true
    → IsAnswer (steps.Close standing.handle) (a_of below) s t answer → reply ≡ reply_to wants.Done answer
    → Drives below (a_of below) s (releases below.root.owner standing) t (ends reply)
released below standing s t answer reply own is told =
    subst (λ from. Drives below (a_of below) s from t (ends reply)) (sym (ap (λ b. if b then more (releasing standing.handle) else ends (kept standing)) own))
    (advanced below (a_of below) s t (releasing standing.handle) answer (ends reply) is (true, ap ends told))

-- ---- the whole operation

pub runs_by : (below : Below) (op : Op) (s t : State) (turn : CallTurn) (reply : Reply) → StartsTo below op turn
    → Drives below (a_of below) s turn t (ends reply) → Runs below op s t reply
runs_by below op s t turn reply begun driven =
    record { room = begun.0; driven = subst (λ from. Drives below (a_of below) s from t (ends reply)) begun.1 driven }
