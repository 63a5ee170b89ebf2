-- What a step and a turn do to the book, to the actor's handles and own events, and to its root.
use Rattle.std.proofs.Common.{◌≡◌, ◌≢◌, ℕ, ◌==◌, List, [], ◌∷◌, ◌++◌, Bool, true, false, cond, if◌then◌else◌, ◌||◌, length, Option, Some, None, is_some, refl, sym, ap, subst, ◌∙◌, inl, inr, eq-eqb, append-nil, le_refl, ltb-true, arith}
use Rattle.std.specs.Prelude.{nat_lt}
use Rattle.std.proofs.lemmas.Bool.{false≢true, ne_eqb}
use Rattle.std.proofs.lemmas.List.Elements.{filter-append}
use Rattle.std.proofs.lemmas.Option.{slice_get_past}
use Rattle.path_text.specs.declared.errno.Errno.{Errno}
use Rattle.path_text.specs.declared.errno.Errno.TheVariants.{NoMemory, BookFull, BadHandle}
use Rattle.path_text.proofs.TextLemmas.{or_false}
use Rattle.tree_model.specs.declared.answer.Answer.TheVariants.{Refused}
use Rattle.tree_model.specs.declared.answer.Event.{Event}
use Rattle.tree_model.specs.StepWith.{StepWith}
use Rattle.tree_model.specs.declared.step.StepOf.TheVariants as steps
use Rattle.tree_model.specs.State.{State}
use Rattle.tree_model.specs.Steps.{outcome, held, node_held}
use Rattle.tree_model.proofs.HistoryLaws.{after_events-append}
use Rattle.tree_model.proofs.StepLaws.{own_handles_stay, others_handles_stay, opened_is_open}
use Rattle.step_resolver.specs.declared.walk.Root.{Root}
use Rattle.step_resolver.specs.Order.{IsWant}
use Rattle.step_resolver.specs.WalkHistory.{own_events}
use Rattle.root_ops.specs.declared.below.Below.{Below}
use Rattle.root_ops.specs.declared.op.Request.{Request}
use Rattle.root_ops.specs.Order.{CallTurn, more, ends, starts, take, due}
use Rattle.root_ops.specs.TurnView.{below_of}
use Rattle.root_ops.specs.View.{CallView}
use Rattle.race_core.specs.declared.plan.Planned.{Planned}
use Rattle.race_core.specs.Book.{BookedHistory, tree_now, free_lines, lines_needed, is_close, closes_nothing, refusal, answer_now, booked}
use Rattle.race_core.specs.Ledgers.{LedgerView}
use Rattle.race_core.specs.Turns.{Luck, Stepped, unless_refused, stepped_by, request_of, comes, begins, begins_next, begun, goes_on, turned}
use Rattle.race_core.proofs.HeldByCalls.{Moves}
use Rattle.race_core.proofs.KeptOpen.{IsOpen}

-- ---- a step through the book

-- made and booked; or not made for want of memory or lines, as no Close is; or the Close of nothing
pub data StepEffect (book : BookedHistory) (a : ℕ) (step : StepWith ℕ) (s : Stepped) : Type 0 where
  was_made : s ≡ record { answer = answer_now book a step; book = booked book a step } → StepEffect book a step s
  was_not : (error : Errno) → IsWant error → is_close step ≡ false → s ≡ record { answer = Refused error; book = book } → StepEffect book a step s
  was_shut : closes_nothing (tree_now book) a step ≡ true → s ≡ record { answer = Refused BadHandle; book = book } → StepEffect book a step s

close_needs_none : (free : ℕ) (step : StepWith ℕ) → nat_lt free (lines_needed step) ≡ true → is_close step ≡ false
close_needs_none free (steps.Open h n) e = refl
close_needs_none free (steps.Dup h) e = refl
close_needs_none free (steps.Parent h) e = refl
close_needs_none free (steps.ReadLink h) e = refl
close_needs_none free (steps.NameBelow r h) e = refl
close_needs_none free (steps.List h) e = refl
close_needs_none free (steps.Close h) e = absurd (omega (arith, ltb-true free 0 e))
close_needs_none free (steps.MakeDir h n) e = refl
close_needs_none free (steps.MakeFile h n) e = refl
close_needs_none free (steps.MakeLink h n text) e = refl
close_needs_none free (steps.RemoveFile h n) e = refl
close_needs_none free (steps.RemoveDir h n) e = refl
close_needs_none free (steps.Rename h n k m mode) e = refl

module _ (book : BookedHistory) (a : ℕ) (step : StepWith ℕ) where
  by_refusal : (full shut : Bool) → nat_lt (free_lines book) (lines_needed step) ≡ full → closes_nothing (tree_now book) a step ≡ shut
      → StepEffect book a step (unless_refused book a step (if full then Some BookFull else (if shut then Some BadHandle else None)))
  by_refusal true shut f s = was_not BookFull (inr refl) (close_needs_none (free_lines book) step f) refl
  by_refusal false true f s = was_shut s refl
  by_refusal false false f s = was_made refl

  by_luck : (tried luck : Bool) → (luck || is_close step) ≡ tried
      → StepEffect book a step (if tried then unless_refused book a step (refusal book a step) else record { answer = Refused NoMemory; book = book })
  by_luck true luck e = by_refusal (nat_lt (free_lines book) (lines_needed step)) (closes_nothing (tree_now book) a step) refl refl
  by_luck false luck e = was_not NoMemory (inl refl) (or_false luck (is_close step) e).1 refl

  pub effect_of : (luck : Bool) → StepEffect book a step (stepped_by luck book a step)
  effect_of luck = by_luck (luck || is_close step) luck refl

-- ---- handles

open_on : (o : Option ℕ) → is_some o ≡ true → (x : ℕ) × (o ≡ Some x)
open_on None e = absurd (false≢true e)
open_on (Some x) e = (x, refl)

pub open_among_others : (s : State) (b a : ℕ) (step : StepWith ℕ) → a ≢ b → (h : ℕ) → IsOpen s a h → IsOpen (outcome s b step).after a h
open_among_others s b a step ne h is = ap is_some (others_handles_stay s b step a h ne) ∙ is

step_moves : (s : State) (a : ℕ) (step : StepWith ℕ) → Moves (IsOpen s a) step (outcome s a step).answer (IsOpen (outcome s a step).after a)
step_moves s a step = record {
  stays = λ k is e. ap is_some (own_handles_stay s a step k (open_on (held s a k) is).0 (open_on (held s a k) is).1 e);
  is_new = λ h x kind e.
      let opened = opened_is_open s a step h x kind e in
      (ap is_some opened.1, λ was. false≢true (sym (ap is_some (ap (held s a) opened.0 ∙ ap (node_held a) (slice_get_past s.handles (length s.handles) (le_refl (length s.handles))))) ∙ was));
}

pub tree_booked : (book : BookedHistory) (a : ℕ) (step : StepWith ℕ) → tree_now (booked book a step) ≡ (outcome (tree_now book) a step).after
tree_booked book a step = after_events-append book.opening book.events (record { actor = a; step = step; answer = answer_now book a step } ∷ [])

pub booked_moves : (book : BookedHistory) (a : ℕ) (step : StepWith ℕ) → Moves (IsOpen (tree_now book) a) step (answer_now book a step) (IsOpen (tree_now (booked book a step)) a)
booked_moves book a step = subst (λ (t : State). Moves (IsOpen (tree_now book) a) step (answer_now book a step) (IsOpen t a)) (sym (tree_booked book a step)) (step_moves (tree_now book) a step)

-- ---- own events

own_of_one : (a : ℕ) (event : Event) → event.actor ≡ a → own_events a (event ∷ []) ≡ event ∷ []
own_of_one a event e = ap (λ b. cond b (event ∷ []) []) (eq-eqb event.actor a e)

none_of_one : (a : ℕ) (event : Event) → event.actor ≢ a → own_events a (event ∷ []) ≡ []
none_of_one a event ne = ap (λ b. cond b (event ∷ []) []) (ne_eqb event.actor a ne)

pub own_more : (a : ℕ) (events : List Event) (event : Event) → event.actor ≡ a → own_events a (events ++ event ∷ []) ≡ own_events a events ++ event ∷ []
own_more a events event e = filter-append (λ (v : Event). v.actor == a) events (event ∷ []) ∙ ap (λ es. own_events a events ++ es) (own_of_one a event e)

pub own_stays : (a : ℕ) (events : List Event) (event : Event) → event.actor ≢ a → own_events a (events ++ event ∷ []) ≡ own_events a events
own_stays a events event ne = filter-append (λ (v : Event). v.actor == a) events (event ∷ []) ∙ ap (λ es. own_events a events ++ es) (none_of_one a event ne) ∙ append-nil (own_events a events)

-- ---- a turn

-- the book is as it was, or has one event more, which is this actor's
pub data BookMoves (book : BookedHistory) (a : ℕ) (new : BookedHistory) : Type 0 where
  same : new ≡ book → BookMoves book a new
  one_more : (step : StepWith ℕ) → new ≡ booked book a step → BookMoves book a new

effect_moves : (book : BookedHistory) (a : ℕ) (step : StepWith ℕ) (s : Stepped) → StepEffect book a step s → BookMoves book a s.book
effect_moves book a due_step s (was_made is) = one_more due_step (ap (λ (t : Stepped). t.book) is)
effect_moves book a due_step s (was_not error want none is) = same (ap (λ (t : Stepped). t.book) is)
effect_moves book a due_step s (was_shut nothing is) = same (ap (λ (t : Stepped). t.book) is)

goes_on_moves : (luck room : Bool) (book : BookedHistory) (ledger : LedgerView) (doing : Option CallView) → BookMoves book ledger.root.owner.actor (goes_on luck room book ledger doing).book
goes_on_moves luck room book ledger None = same refl
goes_on_moves luck room book ledger (Some call) =
    effect_moves book ledger.root.owner.actor (due call.below call.doing) _ (effect_of book ledger.root.owner.actor (due call.below call.doing) luck)

pub comes_root : (ledger : LedgerView) (below : Below) (turn : CallTurn) → (comes ledger below turn).ledger.root ≡ ledger.root
comes_root ledger below (more doing) = refl
comes_root ledger below (ends reply) = refl

pub begins_root : (room : Bool) (ledger : LedgerView) (request : Option Request) → (begins room ledger request).ledger.root ≡ ledger.root
begins_root room ledger None = refl
begins_root room ledger (Some request) = comes_root ledger _ (starts (below_of ledger.root request.flags) room request.op)

pub begins_next_root : (room : Bool) (ledger : LedgerView) (to_come : List Planned) → (begins_next room ledger to_come).ledger.root ≡ ledger.root
begins_next_root room ledger [] = refl
begins_next_root room ledger (next ∷ others) = begins_root room _ (request_of ledger.root ledger.standings next)

pub begun_root : (room : Bool) (ledger : LedgerView) (doing : Option CallView) → (begun room ledger doing).ledger.root ≡ ledger.root
begun_root room ledger None = begins_next_root room ledger ledger.to_come
begun_root room ledger (Some call) = refl

pub goes_on_root : (luck room : Bool) (book : BookedHistory) (ledger : LedgerView) (doing : Option CallView) → (goes_on luck room book ledger doing).seat.ledger.root ≡ ledger.root
goes_on_root luck room book ledger None = refl
goes_on_root luck room book ledger (Some call) =
    comes_root ledger call.below (take call.below room call.doing (stepped_by luck book ledger.root.owner.actor (due call.below call.doing)).answer)

-- a turn keeps the root, and books at most one event, which is the actor's
pub turn_keeps_root : (luck : Luck) (book : BookedHistory) (ledger : LedgerView) (doing : Option CallView) → (turned luck book ledger doing).seat.ledger.root ≡ ledger.root
turn_keeps_root luck book ledger doing =
    let seat = begun luck.start ledger doing in
    goes_on_root luck.step luck.room book seat.ledger seat.doing ∙ begun_root luck.start ledger doing

pub turn_moves : (luck : Luck) (book : BookedHistory) (ledger : LedgerView) (doing : Option CallView) → BookMoves book ledger.root.owner.actor (turned luck book ledger doing).book
turn_moves luck book ledger doing =
    let seat = begun luck.start ledger doing in
    subst (λ (r : Root). BookMoves book r.owner.actor (turned luck book ledger doing).book) (begun_root luck.start ledger doing)
    (goes_on_moves luck.step luck.room book seat.ledger seat.doing)
