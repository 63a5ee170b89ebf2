-- The first turn of a call, from what its contract tells of it.
use Rattle.std.proofs.Common.{◌≡◌, ℕ, suc, ◌+◌, ◌≤◌, ◌<◌, List, [], ◌∷◌, ◌++◌, Option, Some, None, Result, Ok, Err, OnOk, inl, refl, sym, ap, subst, ◌∙◌, arith}
use Rattle.handles.specs.Objects.{StandingObject}
use Rattle.step_resolver.specs.declared.walk.Root.{Root}
use Rattle.root_ops.specs.declared.below.Below.{Below}
use Rattle.root_ops.specs.declared.call.CallTurn.{CallTurn as Outcome}
use Rattle.root_ops.specs.declared.call.CallTurn.TheVariants as outcome
use Rattle.root_ops.specs.declared.op.Request.{Request}
use Rattle.root_ops.specs.declared.reply.Reply.{Reply}
use Rattle.root_ops.specs.declared.reply.Reply.TheVariants as reply
use Rattle.root_ops.specs.View.{CallView, IsOwned, reply_view}
use Rattle.handles.specs.declared.owner.Owner.{Owner}
use Rattle.std.proofs.lemmas.List.{reverse-reverse}
use Rattle.root_ops.specs.Order.{starts, steps_left}
use Rattle.root_ops.specs.TurnView.{below_of, turn_view, Keeps, StartsTo, steps_to_come, STEPS_MAX}
use Rattle.race_core.specs.declared.plan.Planned.{Planned}
use Rattle.race_core.specs.Advance.{Advances}
use Rattle.race_core.specs.Book.{BookedHistory}
use Rattle.race_core.specs.Ledgers.{LedgerView}
use Rattle.race_core.specs.declared.seat.Seat.{Seat}
use Rattle.race_core.specs.Turns.{outcome_of, ended, comes, begins, begins_next, begun, goes_on, request_of, left_by}
use Rattle.race_core.specs.TurnView.{taken_down, seat_at, IsStarted, IsBegun, Starts, GoesOn, IsTurned, steps_of, steps_then, turns_of, turns_left}

-- what was opened is the owner's, and so it is taken down as the order of steps has it
taken_down_as : (owner : Owner) (ledger : LedgerView) (reply : Reply) → IsOwned owner reply → taken_down ledger reply ≡ ended owner ledger (reply_view reply)
taken_down_as owner ledger (reply.Opened standing) is =
    ap (λ (s : StandingObject). record {
      root = ledger.root;
      to_come = ledger.to_come;
      outcomes = ledger.outcomes ++ outcome_of (reply_view (reply.Opened standing)) ∷ [];
      standings = ledger.standings ++ Some s ∷ [];
      kept = ledger.kept ++ [];
    })
    (ap (λ (o : Owner). record { owner = o; handle = standing.handle; node = standing.node; kind = standing.kind; names = standing.names }) is
    ∙ ap (λ (ns : List (List ℕ)). record { owner = owner; handle = standing.handle; node = standing.node; kind = standing.kind; names = ns }) (sym (reverse-reverse standing.names)))
taken_down_as owner ledger (reply.Text text) is = refl
taken_down_as owner ledger reply.Done is = refl
taken_down_as owner ledger (reply.Count n) is = refl
taken_down_as owner ledger (reply.Stepped answer) is = refl
taken_down_as owner ledger (reply.Kept standing) is = refl
taken_down_as owner ledger (reply.Fault error) is = refl

pub seat_comes : (ledger : LedgerView) (below : Below) (turn : Outcome) → Keeps below turn → seat_at ledger turn ≡ comes ledger below (turn_view turn)
seat_comes ledger below (outcome.More call) keeps = ap (λ (b : Below). record { ledger = ledger; doing = Some (record { below = b; doing = call.doing }) }) keeps
seat_comes ledger below (outcome.Done reply) keeps = ap (λ (l : LedgerView). record { ledger = l; doing = None }) (taken_down_as below.root.owner ledger reply keeps)

-- the call was begun
pub started : (root : Root) (request : Request) (turn : Outcome) → StartsTo (below_of root request.flags) request.op (turn_view turn)
    → Keeps (below_of root request.flags) turn → steps_to_come turn ≤ STEPS_MAX → IsStarted root (Some request) turn
started root request turn begun keeps few = record {
  room = begun.0;
  is = λ ledger e.
      subst (λ (r : Root). seat_at ledger turn ≡ comes ledger (below_of r request.flags) (starts (below_of r request.flags) begun.0 request.op)) (sym e)
      (seat_comes ledger (below_of root request.flags) turn keeps ∙ ap (λ t. comes ledger (below_of root request.flags) t) begun.1);
  few = few;
}

pub few_steps : (m : ℕ) (turn : Outcome) → steps_to_come turn ≤ m → steps_then turn ≤ suc m
few_steps m (outcome.More call) few = omega (arith, few)
few_steps m (outcome.Done reply) few = omega arith

fewer_by : (m : ℕ) (turn : Outcome) (others all : ℕ) → steps_to_come turn ≤ m → all ≡ suc (suc m) + others → steps_then turn + others < all
fewer_by m turn others all few is = omega (arith, few_steps m turn few, is)

pub begun_by : (old : LedgerView) (planned : Planned) (others : List Planned) (standings : List (Option StandingObject)) (request : Option Request) (turn : Outcome)
    → old.to_come ≡ planned ∷ others → request ≡ request_of old.root old.standings planned → standings ≡ left_by planned old.standings
    → IsStarted old.root request turn
    → IsBegun old (record { root = old.root; to_come = others; outcomes = old.outcomes; standings = standings; kept = old.kept }) turn
begun_by old planned others standings request turn next is_request left started =
    let after : LedgerView = record { root = old.root; to_come = others; outcomes = old.outcomes; standings = standings; kept = old.kept } in
    record {
      room = started.room;
      is = started.is after refl
          ∙ ap (λ (r : Option Request). begins started.room after r) is_request
          ∙ ap (λ (ss : List (Option StandingObject)). begins started.room (record { root = old.root; to_come = others; outcomes = old.outcomes; standings = ss; kept = old.kept }) (request_of old.root old.standings planned)) left
          ∙ ap (λ (ps : List Planned). begins_next started.room old ps) (sym next);
      few = started.few;
      fewer = fewer_by STEPS_MAX turn (turns_of others) (turns_of old.to_come) started.few (ap turns_of next);
    }

-- ---- an actor's turn

pub turn_few : (turn : Outcome) (left : ℕ) → steps_to_come turn < left → steps_then turn < suc left
turn_few turn left few = omega (arith, few_steps (steps_to_come turn) turn (omega arith), few)

-- the seat after a turn was settled
pub settled_to : (seat new : Seat) (turn : Outcome) → new ≡ seat_at seat.ledger turn → turns_left new ≡ steps_then turn + turns_of seat.ledger.to_come
settled_to seat new (outcome.More call) is = ap turns_left is
settled_to seat new (outcome.Done reply) is = ap turns_left is

-- the call under way went on
pub went_on : (book : BookedHistory) (old new : Seat) (call : CallView) (book_after : BookedHistory) (turn : Outcome)
    → Some call ≡ old.doing → Advances book old.ledger.root.owner.actor call (turn_view turn) book_after → Keeps call.below turn
    → steps_to_come turn < steps_left call.below call.doing → new ≡ seat_at old.ledger turn → GoesOn book old book_after new
went_on book old new call book_after turn is made keeps few settled = record {
  luck = made.luck;
  room = made.room;
  booked = made.left ∙ ap (λ (d : Option CallView). (goes_on made.luck made.room book old.ledger d).book) is;
  seated = settled ∙ seat_comes old.ledger call.below turn keeps ∙ ap (comes old.ledger call.below) made.is_turn
      ∙ ap (λ (d : Option CallView). (goes_on made.luck made.room book old.ledger d).seat) is;
  fewer = inl (
      let left = settled_to old new turn settled in
      let had : suc (steps_left call.below call.doing) + turns_of old.ledger.to_come ≡ turns_left old = ap (λ (d : Option CallView). steps_of d + turns_of old.ledger.to_come) is in
      omega (arith, left, had, turn_few turn (steps_left call.below call.doing) few));
}

-- one after the other they are a turn
pub turned_by : (book : BookedHistory) (old middle : Seat) (book_after : BookedHistory) (new : Seat) → Starts old middle → GoesOn book middle book_after new
    → IsTurned book old book_after new
turned_by book old middle book_after new starts goes = record {
  luck = record { start = starts.room; step = goes.luck; room = goes.room };
  booked = goes.booked ∙ ap (λ (s : Seat). (goes_on goes.luck goes.room book s.ledger s.doing).book) starts.is;
  seated = goes.seated ∙ ap (λ (s : Seat). (goes_on goes.luck goes.room book s.ledger s.doing).seat) starts.is;
}

-- where it is Ok, what follows from that
pub on_ok : {T E : Type 0} (r : Result T E) (A B : Type 0) → (A → B) → OnOk r A → OnOk r B
on_ok (Ok value) A B onward h = onward h
on_ok (Err error) A B onward h = tt
