-- What each end of a call tells, by induction on what the call was told.
use Rattle.std.specs.Prelude.{◌≡◌, ℕ, suc, ◌≤◌, ◌⊎◌, List, [], ◌∷◌, Bool, true, false, Option, refl}
use Rattle.std.proofs.Common.{sym, ap, subst, ◌∙◌, inl, inr, not-suc-le-zero, zero-add, arith}
use Rattle.std.proofs.lemmas.Bool.{false≢true}
use Rattle.path_text.specs.declared.errno.Errno.{Errno}
use Rattle.path_text.specs.declared.errno.Errno.TheVariants.{NoMemory}
use Rattle.tree_model.specs.declared.answer.Answer.{Answer}
use Rattle.tree_model.specs.declared.answer.Answer.TheVariants.{Refused}
use Rattle.tree_model.specs.declared.step.StepOf.TheVariants.{Close}
use Rattle.tree_model.specs.Steps.{held}
use Rattle.tree_model.specs.History.{after_events}
use Rattle.tree_model.proofs.HistoryLaws.{after_events-append}
use Rattle.step_resolver.specs.Order.{Handle, Line, answered, no_room, not_made, IsWant, is_close}
use Rattle.step_resolver.specs.Order as walk
use Rattle.step_resolver.specs.Asked.{is_deepest}
use Rattle.step_resolver.specs.WalkHistory.{WalkInHistory, IsWalkInHistory, begin_of, end_of, timeline}
use Rattle.step_resolver.specs.Failures.{HandlesStay, TellsWant}
use Rattle.step_resolver.specs.Headline.{Opens}
use Rattle.step_resolver.proofs.Underway.LegalHistory.{lived, AloneAt, Rests, HappensAlone, before_or_from}
use Rattle.step_resolver.proofs.Underway.WalkInvariant.{Lived}
use Rattle.step_resolver.proofs.Underway.OwnSteps.{own_events_leave_nodes}
use Rattle.step_resolver.proofs.Ends.EveryWalk.{tree_laws, walks_tell}
use Rattle.bulk_ops.specs.declared.remove_all.clearing.TheConstants.{CLEARING_STEPS_MAX}
use Rattle.bulk_ops.specs.RemoveAllOrder.{removes_file, lists, shuts, leaves, removes_dir, Removing, walking, clearing, closing, Turn, more, removed, failed, begins, walked, take, due, LeadsTo}
use Rattle.bulk_ops.specs.RemoveAllOrder as order
use Rattle.bulk_ops.specs.WalkFirst.{LeavesEntries, walk_part, WalkedTo, after_walk}
use Rattle.bulk_ops.specs.RemoveAllTells.{removals, one_more_if, is_removal, TakesAway, OnlyTakesAway, IsLastOnTarget, IsClose, IsBounded, Parts, Tells, RemoveAllTells}
use Rattle.bulk_ops.proofs.RemovingAll.Bounded.{lines_bounded, clearing_begins}
use Rattle.bulk_ops.proofs.WalkParts.{walked_to, happens_after, there, is_held, after_is}
use Rattle.bulk_ops.proofs.RemovingAll.Underway.{Holds, wants_of_rest, TookAway, LastSoFar, Good, due_good}
use Rattle.bulk_ops.proofs.RemovingAll.AfterAnswers.{file_good, dir_good, open_good, list_good, close_good, closing_good, not_made_good}
use Rattle.bulk_ops.proofs.RemovingAll.Parts.{WalkEnd, goes_on, walk_fails, walk_finds, walk_stops, walk_end, walk_removes_none}

record EndsGood (c : WalkInHistory) (dir : ℕ) (target : List ℕ) (b : ℕ → Option ℕ) (end : Turn) : Type 0 where
  pub m : ℕ
  pub good : Good c dir target b m [] end
  pub rests : Rests c m

module _ {c : WalkInHistory} (alive : Lived c) (dir : ℕ) (target : List ℕ) (b : ℕ → Option ℕ) where
  take_good : (room : Bool) (now t : ℕ) (line : Line) (lines : List Line) → (room ≡ false → TellsWant NoMemory (line ∷ lines)) → (call : Removing)
      → Good c dir target b now (line ∷ lines) (more call) → (answer : Answer) → AloneAt c now t (due call) answer
      → removals (line ∷ lines) ≡ one_more_if (is_removal (due call) answer) (removals lines)
      → ((h : ℕ) → due call ≡ Close h → IsClose line) → Good c dir target b (suc t) lines (take room call answer)
  take_good room now t line lines want (walking way name w) good answer is e close = absurd good
  take_good room now t line lines want (clearing removes_file level above count left) good answer is e close =
      file_good alive dir target b now t line lines level above count left answer good is e
  take_good room now t line lines want (clearing order.opens level above count left) good answer is e close =
      open_good alive dir target b now t line lines level above count left answer good is e
  take_good room now t line lines want (clearing (lists h) level above count left) good answer is e close =
      list_good alive dir target b now t line lines level above count left answer room
      (λ q. wants_of_rest NoMemory c.lines good.tally.made (subst (TellsWant NoMemory) (sym good.tally.rest) (want q))) h good is e
  take_good room now t line lines want (clearing (shuts h) level above count left) good answer is e close =
      close_good alive dir target b now t line lines level above count left answer (shuts h) removes_file h refl refl tt good.stage_at good is e
  take_good room now t line lines want (clearing (leaves h) level above count left) good answer is e close =
      close_good alive dir target b now t line lines level above count left answer (leaves h) removes_dir h refl refl tt good.stage_at good is e
  take_good room now t line lines want (clearing removes_dir level above count left) good answer is e close =
      dir_good alive dir target b now t line lines level above count left answer good is e
  take_good room now t line lines want (closing h hs end) good answer is e close =
      closing_good alive dir target b now t line lines h hs end answer good is e (λ all. (close h refl, all))

  unmade_good : (now : ℕ) (lines : List Line) (error : Errno) → IsWant error → (call : Removing) → is_close (due call) ≡ false
      → Good c dir target b now (not_made error ∷ lines) (more call) → Good c dir target b now lines (take true call (Refused error))
  unmade_good now lines error want (walking way name w) unclosed good = absurd good
  unmade_good now lines error want (clearing stage level above count left) unclosed good =
      not_made_good alive dir target b now lines error want stage level above count left unclosed good
  unmade_good now lines error want (closing h hs end) unclosed good = cc (unclosed)

  lines_good : (lines : List Line) (now : ℕ) (turn end : Turn) → Good c dir target b now lines turn → HappensAlone c now lines → LeadsTo turn lines end
      → EndsGood c dir target b end
  lines_good [] now turn end good happens leads = record { m = now; good = subst (Good c dir target b now []) leads good; rests = happens }
  lines_good (answered step answer ∷ lines) now (more call) end good happens leads =
      lines_good lines (suc happens.0) (take true call answer) end
      (take_good true now happens.0 (answered step answer) lines (λ e. cc (e)) call good answer (subst (λ s. AloneAt c now happens.0 s answer) leads.0 happens.1.0)
      (ap (λ s. one_more_if (is_removal s answer) (removals lines)) leads.0) (λ h q. (h, leads.0 ∙ q)))
      happens.1.1 leads.1
  lines_good (no_room step answer ∷ lines) now (more call) end good happens leads =
      lines_good lines (suc happens.0) (take false call answer) end
      (take_good false now happens.0 (no_room step answer) lines (λ e. inl refl) call good answer (subst (λ s. AloneAt c now happens.0 s answer) leads.0 happens.1.0)
      (ap (λ s. one_more_if (is_removal s answer) (removals lines)) leads.0) (λ h q. (h, leads.0 ∙ q)))
      happens.1.1 leads.1
  lines_good (not_made error ∷ lines) now (more call) end good happens leads =
      lines_good lines now (take true call (Refused error)) end (unmade_good now lines error leads.0.0 call leads.0.1 good) happens leads.1
  lines_good (line ∷ lines) now (removed count) end good happens leads = absurd leads
  lines_good (line ∷ lines) now (failed error) end good happens leads = absurd leads

-- what holds of each own event before the last one's moment holds of all
of_all : {c : WalkInHistory} {m : ℕ} (P : ℕ → Type 0) → Rests c m → ((t : ℕ) → suc t ≤ m → (timeline c).is_own t ≡ true → P t) → (t : ℕ) → (timeline c).is_own t ≡ true → P t
of_all {c} {m} P rests each t own = on (before_or_from t m)
  where
    on : (suc t ≤ m) ⊎ (m ≤ t) → P t
    on (inl early) = each t early own
    on (inr late) = absurd (false≢true (sym (rests.alone t late) ∙ own))

module _ {c : WalkInHistory} {m : ℕ} {dir : ℕ} {target : List ℕ} (rests : Rests c m) where
  takes_all : TookAway c dir target m → OnlyTakesAway c dir target
  takes_all took = of_all (λ t. LeavesEntries c t ⊎ TakesAway c dir target t) rests took.each

  is_last : LastSoFar c dir target m → IsLastOnTarget c dir target
  is_last l = record {
    when = l.when;
    own = l.own;
    handle = l.handle;
    is_open = l.is_open;
    step = l.step;
    answer = l.answer;
    event = l.event;
    on = l.on;
    ended = l.ended;
    last = λ t past own. of_all (λ k. suc l.when ≤ k → _) rests l.since t own past;
  }

-- ---- the whole

-- the parts of the call, where its walk found the object
module _ (w : WalkInHistory) (target : List ℕ) (end : Turn) (is : IsWalkInHistory w) where
  module _ (handle : Handle) (names : List (List ℕ)) (walks : WalkedTo w (walk.found handle names)) where
    abbrev c : WalkInHistory
    c = after_walk walks

    abbrev b : ℕ → Option ℕ
    b k = held (begin_of w) w.actor k

    abbrev opens : Opens (walk_part w walks.window walks.lines) handle names
    opens = walks.headline.tells

    second_is : IsWalkInHistory c
    second_is = after_is w is handle (walk.found handle names) walks opens.new

    there_too : (k : ℕ) → held (begin_of c) w.actor k ≡ held (end_of (walk_part w walks.window walks.lines)) w.actor k
    there_too = there w is handle (walk.found handle names) walks opens.new

    first_good : Good c handle.node target b 0 walks.rest (walked w.way target (walk.found handle names))
    first_good = due_good c handle.node target b 0 walks.rest removes_file (record { dir = handle.number; name = target; others = [] }) [] 0 CLEARING_STEPS_MAX (record {
      at = record { is_open = is_held w is handle (walk.found handle names) walks opens.new; name = refl; none = refl };
      stage_at = tt;
      holds = record { others = λ k out. there_too k ∙ opens.new.others k out.0; fresh = (opens.new.fresh, tt) };
      tally = record {
        took = record { each = λ t le own. absurd (not-suc-le-zero le) };
        counted = sym (zero-add (removals walks.rest));
        made = 0;
        rest = refl;
        enough = omega arith;
        steps = refl;
      };
    })

    ended : LeadsTo (walked w.way target (walk.found handle names)) walks.rest end → EndsGood c handle.node target b end
    ended leads = lines_good (lived tree_laws c second_is) handle.node target b walks.rest 0 (walked w.way target (walk.found handle names)) end first_good
        (happens_after w is (walk.found handle names) walks) leads

    abbrev parts : Parts w
    parts = record { handle = handle; names = names; walked = walks }

    bounded : LeadsTo (walked w.way target (walk.found handle names)) walks.rest end → IsBounded walks.rest
    bounded leads = lines_bounded CLEARING_STEPS_MAX walks.rest (walked w.way target (walk.found handle names)) end (clearing_begins w.way target handle names) leads

    ends_there : end_of c ≡ end_of w
    ends_there =
        ap (λ s. after_events s walks.later) (after_events-append w.opening w.before walks.window)
        ∙ sym (after_events-append (begin_of w) walks.window walks.later) ∙ ap (after_events (begin_of w)) (sym walks.windows)

    handles_stay : {m : ℕ} → Rests c m → Holds c b m [] → HandlesStay w
    handles_stay rests holds k = ap (λ s. held s w.actor k) (sym ends_there) ∙ rests.kept k ∙ holds.others k tt

    cleared : IsBounded walks.rest → (turn : Turn) → EndsGood c handle.node target b turn → Tells w target turn
    cleared few (more call) good = tt
    cleared few (removed count) good = record {
      parts = parts;
      entries = takes_all good.rests good.good.took;
      bounded = few;
      counted = omega (
        arith,
        good.good.counted,
        ap removals walks.all_lines,
        walk_removes_none w.way target walks.lines walks.rest (walk.begins w.way w.path) (walk.found handle names) walks.leads,
      );
      last = is_last good.rests good.good.last;
      handles = handles_stay good.rests good.good.holds;
    }
    cleared few (failed error) good = record {
      why = inr (record { parts = parts; entries = takes_all good.rests good.good.took; bounded = few; fault = good.good.cause tt });
      handles = handles_stay good.rests good.good.holds;
    }

  told : is_deepest w.way.goal ≡ false → WalkEnd w.way target (walk.begins w.way w.path) w.lines end → Tells w target end
  told shallow (goes_on call e) = subst (Tells w target) (sym e) tt
  told shallow (walk_fails error leads e) =
      let tells = walks_tell w (walk.failed error) is leads in
      subst (Tells w target) (sym e) (record {
        why = inl (record { walked = leads; true_once = tells.true_once; leaves = own_events_leave_nodes w (walk.failed error) is leads });
        handles = tells.handles;
      })
  told shallow (walk_finds handle names cut) =
      let walks = walked_to w is cut.walk_lines cut.rest cut.all (walk.found handle names) cut.walks in
      cleared handle names walks (bounded handle names walks cut.leads) end (ended handle names walks cut.leads)
  told shallow (walk_stops handle names ps cut) =
      let walks = walked_to w is cut.walk_lines cut.rest cut.all (walk.partial handle names ps) cut.walks in
      absurd (false≢true (sym shallow ∙ walks.headline.tells.goal))

pub every_call_tells : RemoveAllTells
every_call_tells w target end is shallow leads = told w target end is shallow (walk_end w.way target w.lines (walk.begins w.way w.path) end leads)
