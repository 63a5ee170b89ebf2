-- No reply of a world that was opened for plans says a handle's number.
use Rattle.std.specs.Prelude.{◌≡◌, ℕ, suc, List, [], ◌∷◌, ◌++◌, Bool, Option, Some, None, Result, Ok, Err, refl}
use Rattle.path_text.specs.declared.errno.Errno.{Errno}
use Rattle.path_text.specs.declared.errno.Errno.TheVariants.{BadHandle}
use Rattle.tree_model.specs.declared.answer.Answer.{Answer}
use Rattle.tree_model.specs.declared.answer.Answer.TheVariants as answers
use Rattle.tree_model.specs.State.{State}
use Rattle.tree_model.specs.Steps.{grants}
use Rattle.root_ops.specs.declared.below.Below.{Below}
use Rattle.root_ops.specs.declared.op.Request.{Request}
use Rattle.root_ops.specs.Order.{Reply, stepped, fault, CallTurn, more, ends, starts, take, due}
use Rattle.root_ops.specs.TurnView.{below_of}
use Rattle.root_ops.specs.View.{CallView}
use Rattle.race_core.specs.declared.plan.ActorPlan.{ActorPlan}
use Rattle.race_core.specs.declared.plan.Planned.{Planned}
use Rattle.race_core.specs.declared.report.Outcome.{Outcome}
use Rattle.race_core.specs.declared.report.Outcome.TheVariants as outcome
use Rattle.race_core.specs.declared.seat.Seat.{Seat}
use Rattle.race_core.specs.Book.{BookedHistory}
use Rattle.race_core.specs.Ledgers.{LedgerView}
use Rattle.race_core.specs.Opening.{Grants, before, onward_from, granted, root_in, seats_of}
use Rattle.race_core.specs.Renamed.{answer_by, outcome_by, outcomes_by, replies_by}
use Rattle.race_core.specs.Turns.{Luck, stepped_by, opened_ledger, outcome_of, comes, begins, begins_next, begun, goes_on, turned, request_of, left_by}
use Rattle.race_core.specs.Worlds.{WorldView, turn, ledgers_in, replies_in}
use Rattle.local_states.specs.Worlds.{full, after_turns}
use Rattle.explore.specs.Opened.{world_over, opened_world}
use Rattle.further_world_laws.proofs.EachSeat.{EachSeat, turn_keeps}
use Rattle.merge_laws.specs.Merged.{RepliesSayNoHandles}
use Rattle.merge_laws.proofs.CallsSayNoHandles.{SaysNone, TellsNone, WillTellNone, ComesToNone, stepped_so, taken_so, starts_so}

-- ---- an actor

abbrev OutcomeSaysNone : Outcome → Type 0
OutcomeSaysNone (outcome.Stepped answer) = SaysNone answer
OutcomeSaysNone o = Unit {0}

abbrev AllSayNone : List Outcome → Type 0
AllSayNone [] = Unit {0}
AllSayNone (o ∷ os) = OutcomeSaysNone o × AllSayNone os

abbrev CallWillTellNone : Option CallView → Type 0
CallWillTellNone None = Unit {0}
CallWillTellNone (Some view) = WillTellNone view.doing

abbrev SeatSaysNone : Seat → Type 0
SeatSaysNone seat = AllSayNone seat.ledger.outcomes × CallWillTellNone seat.doing

one_more : (os : List Outcome) (o : Outcome) → AllSayNone os → OutcomeSaysNone o → AllSayNone (os ++ o ∷ [])
one_more [] o none last = (last, tt)
one_more (x ∷ os) o none last = (none.0, one_more os o none.1 last)

ends_so : (reply : Reply) → TellsNone reply → OutcomeSaysNone (outcome_of reply)
ends_so (stepped answer) none = none
ends_so reply none = tt

comes_so : (ledger : LedgerView) (below : Below) (t : CallTurn) → AllSayNone ledger.outcomes → ComesToNone t → SeatSaysNone (comes ledger below t)
comes_so ledger below (more doing) said none = (said, none)
comes_so ledger below (ends reply) said none = (one_more ledger.outcomes (outcome_of reply) said (ends_so reply none), tt)

begins_so : (room : Bool) (ledger : LedgerView) (request : Option Request) → AllSayNone ledger.outcomes → SeatSaysNone (begins room ledger request)
begins_so room ledger None said = (one_more ledger.outcomes (outcome_of (fault BadHandle)) said tt, tt)
begins_so room ledger (Some request) said =
    let below = below_of ledger.root request.flags in comes_so ledger below (starts below room request.op) said (starts_so below room request.op)

next_so : (room : Bool) (ledger : LedgerView) (calls : List Planned) → AllSayNone ledger.outcomes → SeatSaysNone (begins_next room ledger calls)
next_so room ledger [] said = (said, tt)
next_so room ledger (next ∷ others) said =
    begins_so room (record ledger { to_come = others; standings = left_by next ledger.standings }) (request_of ledger.root ledger.standings next) said

begun_so : (room : Bool) (ledger : LedgerView) (doing : Option CallView) → AllSayNone ledger.outcomes → CallWillTellNone doing
    → SeatSaysNone (begun room ledger doing)
begun_so room ledger None said none = next_so room ledger ledger.to_come said
begun_so room ledger (Some view) said none = (said, none)

goes_so : (luck room : Bool) (book : BookedHistory) (ledger : LedgerView) (doing : Option CallView) → AllSayNone ledger.outcomes → CallWillTellNone doing
    → SeatSaysNone (goes_on luck room book ledger doing).seat
goes_so luck room book ledger None said none = (said, tt)
goes_so luck room book ledger (Some view) said none =
    let step = due view.below view.doing in
    let answer : Answer = (stepped_by luck book ledger.root.owner.actor step).answer in
    comes_so ledger view.below (take view.below room view.doing answer) said
    (taken_so view.below room view.doing answer none (λ single. stepped_so luck book ledger.root.owner.actor step single))

turned_so : (luck : Luck) (book : BookedHistory) (seat : Seat) → SeatSaysNone seat → SeatSaysNone (turned luck book seat.ledger seat.doing).seat
turned_so luck book seat none =
    let middle : Seat = begun luck.start seat.ledger seat.doing in
    let first = begun_so luck.start seat.ledger seat.doing none.0 none.1 in
    goes_so luck.step luck.room book middle.ledger middle.doing first.0 first.1

-- ---- all actors

abbrev SeatsSayNone : List Seat → Type 0
SeatsSayNone = EachSeat SeatSaysNone

after_so : (w : WorldView) (is : List ℕ) → SeatsSayNone w.seats → SeatsSayNone (after_turns w is).seats
after_so w [] all = all
after_so w (i ∷ is) all = after_so (turn full w i) is (turn_keeps SeatSaysNone turned_so full w i all)

-- ---- a world that is opened

abbrev GrantsSayNone : Grants → Type 0
GrantsSayNone (Ok granted) = SeatsSayNone (seats_of granted.ledgers)
GrantsSayNone (Err refusal) = Unit {0}

before_so : (ledger : LedgerView) (grants : Grants) → AllSayNone ledger.outcomes → GrantsSayNone grants → GrantsSayNone (before ledger grants)
before_so ledger (Ok granted) said none = ((said, tt), none)
before_so ledger (Err refusal) said none = tt

granted_so : (s : State) (i : ℕ) (plans : List ActorPlan) → GrantsSayNone (granted s i plans)
granted_so s i [] = tt
granted_so s i (plan ∷ plans) = on (grants s i plan.root) (λ t. granted_so t (suc i) plans)
  where
    on : (root : Result State Errno) → ((t : State) → GrantsSayNone (granted t (suc i) plans))
        → GrantsSayNone (onward_from i root (λ t. before (opened_ledger (root_in s i) plan.calls) (granted t (suc i) plans)))
    on (Ok t) rest = before_so (opened_ledger (root_in s i) plan.calls) (granted t (suc i) plans) tt (rest t)
    on (Err error) rest = tt

opened_so : (s : State) (lines : ℕ) (grants : Grants) → GrantsSayNone grants → SeatsSayNone (world_over s lines grants).seats
opened_so s lines (Ok granted) none = none
opened_so s lines (Err refusal) none = tt

-- ---- what other numbers change

module _ (f : ℕ → ℕ) where
  answer_same : (answer : Answer) → SaysNone answer → answer_by f answer ≡ answer
  answer_same (answers.Opened h x kind) none = absurd none
  answer_same answer none = refl

  outcome_same : (o : Outcome) → OutcomeSaysNone o → outcome_by f o ≡ o
  outcome_same (outcome.Stepped answer) none = λ i. outcome.Stepped (answer_same answer none i)
  outcome_same o none = refl

  outcomes_same : (os : List Outcome) → AllSayNone os → outcomes_by f os ≡ os
  outcomes_same [] none = refl
  outcomes_same (o ∷ os) none = λ i. outcome_same o none.0 i ∷ outcomes_same os none.1 i

  replies_same : (seats : List Seat) → SeatsSayNone seats → replies_by f (replies_in (ledgers_in seats)) ≡ replies_in (ledgers_in seats)
  replies_same [] none = refl
  replies_same (seat ∷ seats) none = λ i. outcomes_same seat.ledger.outcomes none.0.0 i ∷ replies_same seats none.1 i

pub replies_say_no_handles : RepliesSayNoHandles
replies_say_no_handles tree plans lines is f =
    let w = opened_world tree plans lines in
    replies_same f (after_turns w is).seats (after_so w is (opened_so tree lines (granted tree 0 plans) (granted_so tree 0 plans)))
