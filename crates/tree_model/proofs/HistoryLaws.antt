-- Histories, cut and joined, and the trees at their moments.
use Rattle.std.proofs.Common.{◌≡◌, ◌≢◌, ℕ, zero, suc, List, [], ◌∷◌, ◌++◌, take, drop, length, Some, slice_get, refl, sym, ap, ◌∙◌, subst, arith, take-append-drop, take_all}
use Rattle.std.specs.List.{AllByRecursion}
use Rattle.std.proofs.lemmas.List.Elements.{recursion_from_All}
use Rattle.std.proofs.lemmas.Option.{none-some, same_Some}
use Rattle.tree_model.specs.declared.answer.Event.{Event}
use Rattle.tree_model.specs.declared.inode.Object.{Object}
use Rattle.tree_model.specs.History.{after_event, after_events, IsLegal, tree_at}
use Rattle.tree_model.specs.HistoryLaws.{LegalAtEachMoment, EventsLeadOn, TreesBeginAndEnd, LegalHistoriesJoin, LegalGoesOn, LegalWhenCut, HistoriesKeepTrees, ObjectsStayForGood, NumbersGrowByEvents, HandlesStayAmongOthers}
use Rattle.tree_model.specs.State.{State, object_at}
use Rattle.tree_model.specs.Steps.{outcome, held}
use Rattle.tree_model.specs.Trees.{IsState}
use Rattle.tree_model.proofs.StepsKept.{steps_keep_trees}
use Rattle.tree_model.proofs.StepLaws.{numbers_grow_by_one, objects_stay, others_handles_stay}

-- ---- joined

pub IsLegal-append : (s : State) (first second : List Event) → IsLegal s first → IsLegal (after_events s first) second → IsLegal s (first ++ second)
IsLegal-append s [] second l r = r
IsLegal-append s (event ∷ first) second l r = (l.0, IsLegal-append (after_event s event) first second l.1 r)

pub IsLegal-front : (s : State) (first second : List Event) → IsLegal s (first ++ second) → IsLegal s first
IsLegal-front s [] second l = tt
IsLegal-front s (event ∷ first) second l = (l.0, IsLegal-front (after_event s event) first second l.1)

pub IsLegal-back : (s : State) (first second : List Event) → IsLegal s (first ++ second) → IsLegal (after_events s first) second
IsLegal-back s [] second l = l
IsLegal-back s (event ∷ first) second l = IsLegal-back (after_event s event) first second l.1

pub after_events-append : (s : State) (first second : List Event) → after_events s (first ++ second) ≡ after_events (after_events s first) second
after_events-append s [] second = refl
after_events-append s (event ∷ first) second = after_events-append (after_event s event) first second

pub legal_histories_join : LegalHistoriesJoin
legal_histories_join s first second = (
  ((λ l. (IsLegal-front s first second l, IsLegal-back s first second l)), (λ l. IsLegal-append s first second l.0 l.1)),
  after_events-append s first second,
)

pub legal_goes_on : LegalGoesOn
legal_goes_on s events event = (
  (λ l. (IsLegal-front s events (event ∷ []) l, (IsLegal-back s events (event ∷ []) l).0)),
  (λ l. IsLegal-append s events (event ∷ []) l.0 (l.1, tt)),
)

pub legal_when_cut : LegalWhenCut
legal_when_cut s events m l =
    let joined = subst (IsLegal s) (sym (take-append-drop m events)) l in
    (IsLegal-front s (take m events) (drop m events) joined, IsLegal-back s (take m events) (drop m events) joined)

-- ---- from moment to moment

pub events_lead_on : EventsLeadOn
events_lead_on s [] m event e = absurd (none-some event e)
events_lead_on s (first ∷ events) zero event e = ap (after_event s) (same_Some first event e)
events_lead_on s (first ∷ events) (suc m) event e = events_lead_on (after_event s first) events m event e

pub trees_begin_and_end : TreesBeginAndEnd
trees_begin_and_end s events = (refl, ap (after_events s) (take_all (length events) events (omega arith)))

answers_at : (s : State) (events : List Event) → IsLegal s events
    → (m : ℕ) (event : Event) → slice_get events m ≡ Some event → event.answer ≡ (outcome (tree_at s events m) event.actor event.step).answer
answers_at s [] l m event e = absurd (none-some event e)
answers_at s (first ∷ events) l zero event e = subst (λ k. k.answer ≡ (outcome s k.actor k.step).answer) (same_Some first event e) l.0
answers_at s (first ∷ events) l (suc m) event e = answers_at (after_event s first) events l.1 m event e

legal_by_moments : (s : State) (events : List Event)
    → ((m : ℕ) (event : Event) → slice_get events m ≡ Some event → event.answer ≡ (outcome (tree_at s events m) event.actor event.step).answer) → IsLegal s events
legal_by_moments s [] f = tt
legal_by_moments s (first ∷ events) f = (f 0 first refl, legal_by_moments (after_event s first) events (λ m event e. f (suc m) event e))

pub legal_at_each_moment : LegalAtEachMoment
legal_at_each_moment s events = ((λ l. answers_at s events l), (λ f. legal_by_moments s events f))

-- ---- what stays over a history

IsState-after_events : (s : State) (events : List Event) → IsState s → IsState (after_events s events)
IsState-after_events s [] t = t
IsState-after_events s (event ∷ events) t = IsState-after_events (after_event s event) events (steps_keep_trees s event.actor event.step t)

pub histories_keep_trees : HistoriesKeepTrees
histories_keep_trees s events t = (IsState-after_events s events t, λ m. IsState-after_events s (take m events) t)

object_at-after_events : (s : State) (events : List Event) (x : ℕ) (object : Object) → object_at s.nodes x ≡ Some object → object_at (after_events s events).nodes x ≡ Some object
object_at-after_events s [] x object e = e
object_at-after_events s (event ∷ events) x object e =
    object_at-after_events (after_event s event) events x object (objects_stay s event.actor event.step x object e)

pub objects_stay_for_good : ObjectsStayForGood
objects_stay_for_good s events zero k x object low e = object_at-after_events s (take k events) x object e
objects_stay_for_good s [] (suc m) zero x object low e = e
objects_stay_for_good s [] (suc m) (suc k) x object low e = e
objects_stay_for_good s (event ∷ events) (suc m) zero x object low e = absurd (omega arith)
objects_stay_for_good s (event ∷ events) (suc m) (suc k) x object low e =
    objects_stay_for_good (after_event s event) events m k x object (omega arith) e

pub numbers_grow_by_events : NumbersGrowByEvents
numbers_grow_by_events s [] = (omega arith, omega arith)
numbers_grow_by_events s (event ∷ events) =
    let one = numbers_grow_by_one s event.actor event.step in
    let rest = numbers_grow_by_events (after_event s event) events in
    let nodes = one.0 in let handles = one.1 in
    let more_nodes = rest.0 in let more_handles = rest.1 in
    (omega (arith, nodes, more_nodes), omega (arith, handles, more_handles))

others_only : (s : State) (events : List Event) (b : ℕ) → AllByRecursion (λ event. event.actor ≢ b) events → (h : ℕ) → held (after_events s events) b h ≡ held s b h
others_only s [] b all h = refl
others_only s (event ∷ events) b all h =
    others_only (after_event s event) events b all.1 h ∙ others_handles_stay s event.actor event.step b h (λ q. all.0 (sym q))

pub handles_stay_among_others : HandlesStayAmongOthers
handles_stay_among_others s events b all h = others_only s events b (recursion_from_All (λ event. event.actor ≢ b) events all) h
