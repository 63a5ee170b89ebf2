-- What a RemoveAll took away in the directory that its walk found, by induction on what it was told from there on.
use Rattle.std.specs.Prelude.{◌≡◌, ℕ, suc, ◌≤◌, ◌⊎◌, List, [], ◌∷◌, ◌++◌, Bool, true, false, Option, refl}
use Rattle.std.proofs.Common.{sym, ap, subst, ◌∙◌, inl, inr, not-suc-le-zero, zero-add, append_assoc, arith}
use Rattle.std.proofs.lemmas.Bool.{false≢true}
use Rattle.path_text.specs.declared.errno.Errno.{Errno}
use Rattle.path_text.specs.declared.errno.Errno.TheVariants.{NoMemory}
use Rattle.path_text.specs.declared.path.Rule.TheVariants.{Drop}
use Rattle.path_text.specs.declared.path.Split.{Split}
use Rattle.tree_model.specs.declared.answer.Answer.{Answer}
use Rattle.tree_model.specs.declared.answer.Answer.TheVariants.{Refused}
use Rattle.tree_model.specs.declared.step.StepOf.TheVariants.{Close}
use Rattle.tree_model.specs.State.{State}
use Rattle.tree_model.specs.Steps.{held}
use Rattle.walk_plan.specs.declared.goal.Goal.TheVariants.{Follow}
use Rattle.step_resolver.specs.Order.{Handle, Line, answered, no_room, not_made, IsWant, is_close, ending}
use Rattle.step_resolver.specs.Order as walk
use Rattle.step_resolver.specs.WalkHistory.{WalkInHistory, IsWalkInHistory, timeline}
use Rattle.step_resolver.specs.Failures.{TellsWant}
use Rattle.step_resolver.proofs.Underway.LegalHistory.{lived, AloneAt, Rests, HappensAlone, before_or_from}
use Rattle.step_resolver.proofs.Underway.WalkInvariant.{Lived}
use Rattle.step_resolver.proofs.Ends.EveryWalk.{tree_laws}
use Rattle.bulk_ops.specs.declared.remove_all.clearing.TheConstants.{CLEARING_STEPS_MAX}
use Rattle.bulk_ops.specs.RemoveAllOrder.{removes_file, lists, shuts, leaves, removes_dir, Removing, walking, clearing, closing, Turn, more, removed, failed, walked, take, due, LeadsTo}
use Rattle.bulk_ops.specs.RemoveAllOrder as order
use Rattle.bulk_ops.specs.WalkFirst.{LeavesEntries}
use Rattle.bulk_ops.specs.RemoveAllTells.{removals, one_more_if, is_removal, TakesAway, OnlyTakesAway, IsLastOnTarget, IsClose, IsBounded}
use Rattle.bulk_ops.proofs.RemovingAll.Bounded.{lines_bounded, clearing_begins}
use Rattle.bulk_ops.proofs.RemovingAll.Underway.{Holds, wants_of_rest, TookAway, LastSoFar, Good, due_good}
use Rattle.bulk_ops.proofs.RemovingAll.AfterAnswers.{file_good, dir_good, open_good, list_good, close_good, closing_good, not_made_good}
use Rattle.bulk_ops.proofs.RemovingAll.Parts.{walk_removes_none}
use Rattle.root_ops.specs.Acts.{along, IsEntry}
use Rattle.root_ops.specs.CallHistory.{CallInHistory, IsCallInHistory, actor_of, HandlesAfter, HandlesStay}
use Rattle.root_ops.specs.CallHistory as call
use Rattle.root_ops.specs.Order.{Reply, fault, removing_turn}
use Rattle.root_ops.specs.Order as calls
use Rattle.root_ops.proofs.Bulk.{clears_led}
use Rattle.root_ops.proofs.Handles.AfterWalks.{same_reply}
use Rattle.root_ops.proofs.Handles.BulkHistory.{is_bulk_of}
use Rattle.kernel_walks.specs.SeenTo.{SeenTo, after_seen}
use Rattle.kernel_walks.specs.Tells.{ClearsThere, RemoveAllSees}
use Rattle.kernel_walks.proofs.SeenBelow.{asks}
use Rattle.kernel_walks.proofs.SeenTo.{happens_after, there, is_held, after_is, ends_there}

pub record EndsGood (c : WalkInHistory) (dir : ℕ) (target : List ℕ) (b : ℕ → Option ℕ) (end : Turn) : Type 0 where
  pub m : ℕ
  pub good : Good c dir target b m [] end
  pub rests : Rests c m

module _ {c : WalkInHistory} (alive : Lived c) (dir : ℕ) (target : List ℕ) (b : ℕ → Option ℕ) where
  take_good : (room : Bool) (now t : ℕ) (line : Line) (lines : List Line) → (room ≡ false → TellsWant NoMemory (line ∷ lines)) → (call : Removing)
      → Good c dir target b now (line ∷ lines) (more call) → (answer : Answer) → AloneAt c now t (due call) answer
      → removals (line ∷ lines) ≡ one_more_if (is_removal (due call) answer) (removals lines)
      → ((h : ℕ) → due call ≡ Close h → IsClose line) → Good c dir target b (suc t) lines (take room call answer)
  take_good room now t line lines want (walking way name w) good answer is e close = absurd good
  take_good room now t line lines want (clearing removes_file level above count left) good answer is e close =
      file_good alive dir target b now t line lines level above count left answer good is e
  take_good room now t line lines want (clearing order.opens level above count left) good answer is e close =
      open_good alive dir target b now t line lines level above count left answer good is e
  take_good room now t line lines want (clearing (lists h) level above count left) good answer is e close =
      list_good alive dir target b now t line lines level above count left answer room
      (λ q. wants_of_rest NoMemory c.lines good.tally.made (subst (TellsWant NoMemory) (sym good.tally.rest) (want q))) h good is e
  take_good room now t line lines want (clearing (shuts h) level above count left) good answer is e close =
      close_good alive dir target b now t line lines level above count left answer (shuts h) removes_file h refl refl tt good.stage_at good is e
  take_good room now t line lines want (clearing (leaves h) level above count left) good answer is e close =
      close_good alive dir target b now t line lines level above count left answer (leaves h) removes_dir h refl refl tt good.stage_at good is e
  take_good room now t line lines want (clearing removes_dir level above count left) good answer is e close =
      dir_good alive dir target b now t line lines level above count left answer good is e
  take_good room now t line lines want (closing h hs end) good answer is e close =
      closing_good alive dir target b now t line lines h hs end answer good is e (λ all. (close h refl, all))

  unmade_good : (now : ℕ) (lines : List Line) (error : Errno) → IsWant error → (call : Removing) → is_close (due call) ≡ false
      → Good c dir target b now (not_made error ∷ lines) (more call) → Good c dir target b now lines (take true call (Refused error))
  unmade_good now lines error want (walking way name w) unclosed good = absurd good
  unmade_good now lines error want (clearing stage level above count left) unclosed good =
      not_made_good alive dir target b now lines error want stage level above count left unclosed good
  unmade_good now lines error want (closing h hs end) unclosed good = cc (unclosed)

  pub lines_good : (lines : List Line) (now : ℕ) (turn end : Turn) → Good c dir target b now lines turn → HappensAlone c now lines → LeadsTo turn lines end
      → EndsGood c dir target b end
  lines_good [] now turn end good happens leads = record { m = now; good = subst (Good c dir target b now []) leads good; rests = happens }
  lines_good (answered step answer ∷ lines) now (more call) end good happens leads =
      lines_good lines (suc happens.0) (take true call answer) end
      (take_good true now happens.0 (answered step answer) lines (λ e. cc (e)) call good answer (subst (λ s. AloneAt c now happens.0 s answer) leads.0 happens.1.0)
      (ap (λ s. one_more_if (is_removal s answer) (removals lines)) leads.0) (λ h q. (h, leads.0 ∙ q)))
      happens.1.1 leads.1
  lines_good (no_room step answer ∷ lines) now (more call) end good happens leads =
      lines_good lines (suc happens.0) (take false call answer) end
      (take_good false now happens.0 (no_room step answer) lines (λ e. inl refl) call good answer (subst (λ s. AloneAt c now happens.0 s answer) leads.0 happens.1.0)
      (ap (λ s. one_more_if (is_removal s answer) (removals lines)) leads.0) (λ h q. (h, leads.0 ∙ q)))
      happens.1.1 leads.1
  lines_good (not_made error ∷ lines) now (more call) end good happens leads =
      lines_good lines now (take true call (Refused error)) end (unmade_good now lines error leads.0.0 call leads.0.1 good) happens leads.1
  lines_good (line ∷ lines) now (removed count) end good happens leads = absurd leads
  lines_good (line ∷ lines) now (failed error) end good happens leads = absurd leads

-- what holds of each own event before the last one's moment holds of all
of_all : {c : WalkInHistory} {m : ℕ} (P : ℕ → Type 0) → Rests c m → ((t : ℕ) → suc t ≤ m → (timeline c).is_own t ≡ true → P t) → (t : ℕ) → (timeline c).is_own t ≡ true → P t
of_all {c} {m} P rests each t own = on (before_or_from t m)
  where
    on : (suc t ≤ m) ⊎ (m ≤ t) → P t
    on (inl early) = each t early own
    on (inr late) = absurd (false≢true (sym (rests.alone t late) ∙ own))

module _ {c : WalkInHistory} {m : ℕ} {dir : ℕ} {target : List ℕ} (rests : Rests c m) where
  pub takes_all : TookAway c dir target m → OnlyTakesAway c dir target
  takes_all took = of_all (λ t. LeavesEntries c t ⊎ TakesAway c dir target t) rests took.each

  pub is_last : LastSoFar c dir target m → IsLastOnTarget c dir target
  is_last l = record {
    when = l.when;
    own = l.own;
    handle = l.handle;
    is_open = l.is_open;
    step = l.step;
    answer = l.answer;
    event = l.event;
    on = l.on;
    ended = l.ended;
    last = λ t past own. of_all (λ k. suc l.when ≤ k → _) rests l.since t own past;
  }

-- ---- from the directory that the kernel saw

module _ (c : CallInHistory) (reply : Reply) (is : IsCallInHistory c) (text : List ℕ) (split : Split) (entry : IsEntry text Drop split) where
  abbrev part : WalkInHistory
  part = along c Follow split.dir

  part_is : IsWalkInHistory part
  part_is = is_bulk_of c Follow split.dir is

  module _ (dir : Handle) (names : List (List ℕ)) (seen : SeenTo part dir names)
      (onward : calls.LeadsTo c.below (removing_turn (walked part.way split.name (walk.found dir names))) seen.rest (calls.ends reply))
      (counted : removals c.lines ≡ removals seen.rest) where
    abbrev after : WalkInHistory
    after = after_seen seen

    abbrev b : ℕ → Option ℕ
    b k = held (call.begin_of c) (actor_of c) k

    first_good : Good after dir.node split.name b 0 seen.rest (walked part.way split.name (walk.found dir names))
    first_good = due_good after dir.node split.name b 0 seen.rest removes_file (record { dir = dir.number; name = split.name; others = [] }) [] 0 CLEARING_STEPS_MAX (record {
      at = record { is_open = is_held part part_is dir names seen; name = refl; none = refl };
      stage_at = tt;
      holds = record { others = λ k out. there part part_is dir names seen k ∙ seen.seen.opens.new.others k out.0; fresh = (seen.seen.opens.new.fresh, tt) };
      tally = record {
        took = record { each = λ t le own. absurd (not-suc-le-zero le) };
        counted = sym (zero-add (removals seen.rest));
        made = 0;
        rest = refl;
        enough = omega arith;
        steps = refl;
      };
    })

    stay : {m : ℕ} → Rests after m → Holds after b m [] → HandlesStay c
    stay rests holds k = ap (λ (s : State). held s (actor_of c) k) (sym (ends_there part part_is dir names seen)) ∙ rests.kept k ∙ holds.others k tt

    abbrev clears : {m : ℕ} → IsBounded seen.rest → Rests after m → TookAway after dir.node split.name m → ClearsThere c text
    clears few rests took = record { split = split; entry = entry; dir = dir; names = names; seen = seen; entries = takes_all rests took; bounded = few }

    told_end : IsBounded seen.rest → (end : Turn) → removing_turn end ≡ calls.ends reply → EndsGood after dir.node split.name b end → RemoveAllSees c text reply × HandlesAfter c reply
    told_end few (more call) same good = cc (same)
    told_end few (removed n) same good =
        subst (λ r. RemoveAllSees c text r × HandlesAfter c r) (same_reply (calls.count n) reply same)
        ((clears few good.rests good.good.took, (omega (arith, good.good.counted, counted), is_last good.rests good.good.last)), stay good.rests good.good.holds)
    told_end few (failed error) same good =
        subst (λ r. RemoveAllSees c text r × HandlesAfter c r) (same_reply (fault error) reply same)
        ((clears few good.rests good.good.took, good.good.cause tt), stay good.rests good.good.holds)

    pub clears_so : RemoveAllSees c text reply × HandlesAfter c reply
    clears_so =
        let turn = walked part.way split.name (walk.found dir names) in
        let by = clears_led c.below turn seen.rest reply onward in
        told_end (lines_bounded CLEARING_STEPS_MAX seen.rest turn by.end (clearing_begins part.way split.name dir names) by.led) by.end by.is_reply
        (lines_good (lived tree_laws after (after_is part part_is dir names seen)) dir.node split.name b seen.rest 0 turn by.end first_good
        (happens_after part part_is dir names seen) by.led)

-- no line of a walk takes an entry away, whatever its last question was told
pub seen_removes_none : (way : walk.Way) (target : List ℕ) (lines was front rest : List Line) (handle : Handle) (names others : List (List ℕ)) (turn : walk.Turn)
    → walk.LeadsTo way turn front (walk.more (ending handle names [])) → lines ≡ was ++ rest → was ≡ front ++ asks way handle others ∷ [] → removals lines ≡ removals rest
seen_removes_none way target lines was front rest handle names others turn led whole was_so =
    ap removals (whole ∙ ap (λ ls. ls ++ rest) was_so ∙ append_assoc front (asks way handle others ∷ []) rest)
    ∙ walk_removes_none way target front (asks way handle others ∷ rest) turn (walk.more (ending handle names [])) led
