-- A call that is given up opens nothing: no step of it is made but its Closes, and no object is found by one.
use Rattle.std.specs.Prelude.{◌≡◌, ℕ, List, [], ◌∷◌, Bool, true, Option, Some, None}
use Rattle.std.proofs.Common.{sym, subst}
use Rattle.std.proofs.lemmas.Bool.{false≢true}
use Rattle.path_text.specs.declared.errno.Errno.{Errno}
use Rattle.path_text.specs.declared.errno.Errno.TheVariants.{Exists}
use Rattle.tree_model.specs.declared.answer.Answer.{Answer}
use Rattle.tree_model.specs.declared.answer.Answer.TheVariants.{Opened, Text, Done, Refused}
use Rattle.step_resolver.specs.Order.{Way, Handle, Walking, found, partial, failed, is_dir_kind}
use Rattle.step_resolver.specs.Order as walk
use Rattle.bulk_ops.specs.MakeAllOrder as make
use Rattle.bulk_ops.specs.RemoveAllOrder as remove
use Rattle.root_ops.specs.declared.aim.Aim.{Aim}
use Rattle.root_ops.specs.declared.aim.Wanted.{Wanted}
use Rattle.root_ops.specs.declared.aim.Wanted.TheVariants as wants
use Rattle.root_ops.specs.declared.below.Below.{Below}
use Rattle.root_ops.specs.declared.op.Op.{Op}
use Rattle.root_ops.specs.declared.op.Request.{Request}
use Rattle.root_ops.specs.Order.{Reply, opened, fault, After, gives, acts, Doing, walking, acting, checking, closing, making, removing, releasing, CallTurn, more, ends, reply_to, held_by, way_of, make_way, makes, removing_turn, checked, starts, take, due}
use Rattle.root_ops.specs.Order as call
use Rattle.root_ops.specs.TurnView.{below_of}
use Rattle.root_ops.specs.View.{CallView}
use Rattle.root_ops.proofs.Rooms.{FindsNone, closed, not_opened, not_risen}
use Rattle.race_core.specs.declared.plan.Planned.{Planned}
use Rattle.race_core.specs.declared.seat.Seat.{Seat}
use Rattle.race_core.specs.Book.{BookedHistory, is_close}
use Rattle.race_core.specs.JoinedRuns.{TakesTurns}
use Rattle.race_core.specs.Ledgers.{LedgerView}
use Rattle.race_core.specs.Opening.{seats_of}
use Rattle.race_core.specs.Turns.{Luck, stepped_by, comes, begins, begins_next, begun, goes_on, turned, request_of, left_by}
use Rattle.race_core.specs.Worlds.{WorldView}
use Rattle.further_world_laws.proofs.EachSeat.{EachSeat, turn_keeps}
use Rattle.further_world_laws.proofs.PlainTurns.{IsPlain, walked_plain, checked_plain, made_plain, starts_plain}

-- ---- what opens nothing

abbrev pub OpensNone : Reply → Type 0
OpensNone (opened handle names) = ⊥
OpensNone reply = Unit {0}

-- where closings are due that end the call, it has opened nothing that it tells
abbrev pub ClosesToNone : Doing → Type 0
ClosesToNone (closing h hs (gives reply)) = OpensNone reply
ClosesToNone doing = Unit {0}

-- so it is at a turn that goes on
abbrev pub GoesToNone : CallTurn → Type 0
GoesToNone (more doing) = ClosesToNone doing
GoesToNone (ends reply) = Unit {0}

-- and a turn that ends the call opens nothing
abbrev pub EndsInNone : CallTurn → Type 0
EndsInNone (more doing) = ClosesToNone doing
EndsInNone (ends reply) = OpensNone reply

goes_too : (turn : CallTurn) → EndsInNone turn → GoesToNone turn
goes_too (more doing) none = none
goes_too (ends reply) none = tt

-- ---- the parts of a call

replies_none : (wanted : Wanted) (answer : Answer) → OpensNone (reply_to wanted answer)
replies_none wants.Done Done = tt
replies_none wants.Done answer = tt
replies_none wants.Text (Text bytes) = tt
replies_none wants.Text answer = tt
replies_none wants.Any (Refused error) = tt
replies_none wants.Any answer = tt

closes_to : (hs : List ℕ) (reply : Reply) → OpensNone reply → EndsInNone (call.closes hs (gives reply))
closes_to [] reply none = none
closes_to (h ∷ hs) reply none = none

closing_on : (h : ℕ) (hs : List ℕ) (after : After) → ClosesToNone (closing h hs after) → EndsInNone (call.closes hs after)
closing_on h hs (gives reply) none = closes_to hs reply none
closing_on h [] (acts wanted step ks) none = tt
closing_on h (k ∷ hs) (acts wanted step ks) none = tt

given_up_call : (hs : List ℕ) (error : Errno) → EndsInNone (call.gives_up hs error)
given_up_call hs error = closes_to hs (fault error) tt

-- a walk that found nothing
walked_to_none : (below : Below) (room : Bool) (aim : Aim) (turn : walk.Turn) → FindsNone turn → EndsInNone (call.walked below room aim turn)
walked_to_none below room aim (walk.more w) none = tt
walked_to_none below room aim (found handle names) none = absurd none
walked_to_none below room aim (partial handle names rest) none = absurd none
walked_to_none below room aim (failed error) none = given_up_call (held_by aim) error

cleared_so : (turn : remove.Turn) → EndsInNone (removing_turn turn)
cleared_so (remove.more r) = tt
cleared_so (remove.removed n) = tt
cleared_so (remove.failed error) = tt

-- ---- a step that is refused, or a Close

walk_refused : (way : Way) (room : Bool) (w : Walking) (error : Errno) → FindsNone (walk.take way room w (Refused error))
walk_refused way room (walk.opening position own follow n rest) error = not_opened way position own follow n rest error
walk_refused way room (walk.rising old names rest) error = not_risen way old error
walk_refused way room (walk.closing h hs after) error = closed way hs after
walk_refused way room w error = tt

walk_closed : (way : Way) (room : Bool) (w : Walking) (answer : Answer) → is_close (walk.due way w) ≡ true → FindsNone (walk.take way room w answer)
walk_closed way room (walk.closing h hs after) answer e = closed way hs after
walk_closed way room w answer e = absurd (false≢true e)

-- a MkdirAll that isn't done
abbrev MakesNone : make.MakeTurn → Type 0
MakesNone (make.more m) = Unit {0}
MakesNone (make.made handle names) = ⊥
MakesNone (make.failed error) = Unit {0}

makes_to_none : (turn : make.MakeTurn) → MakesNone turn → EndsInNone (makes turn)
makes_to_none (make.more m) none = tt
makes_to_none (make.made handle names) none = absurd none
makes_to_none (make.failed error) none = tt

make_given_up : (hs : List ℕ) (error : Errno) → MakesNone (make.gives_up hs error)
make_given_up [] error = tt
make_given_up (h ∷ hs) error = tt

make_walked : (room : Bool) (turn : walk.Turn) → FindsNone turn → MakesNone (make.after_walk room turn)
make_walked room (walk.more w) none = tt
make_walked room (found handle names) none = absurd none
make_walked room (partial handle names rest) none = absurd none
make_walked room (failed error) none = tt

not_made_so : (held : Handle) (names : List (List ℕ)) (n : List ℕ) (left : List (List ℕ)) (error : Errno) → MakesNone (make.refused_make held names n left error)
not_made_so held names n left Exists = tt
not_made_so held names n left error = tt

goes_down_so : (held : Handle) (names left : List (List ℕ)) → MakesNone (make.goes_down held names left)
goes_down_so held names [] = tt
goes_down_so held names (n ∷ left) = tt

make_refused : (way : Way) (room : Bool) (m : make.Making) (error : Errno) → MakesNone (make.take way room m (Refused error))
make_refused way room (make.walking w) error = make_walked room (walk.take way room w (Refused error)) (walk_refused way room w error)
make_refused way room (make.making held names n left) error = not_made_so held names n left error
make_refused way room (make.leaving old new names left) error = goes_down_so new names left
make_refused way room (make.closing h hs why) error = make_given_up hs why
make_refused way room m error = tt

make_closed : (way : Way) (room : Bool) (m : make.Making) (answer : Answer) → is_close (make.due way m) ≡ true → MakesNone (make.take way room m answer)
make_closed way room (make.walking w) answer e = make_walked room (walk.take way room w answer) (walk_closed way room w answer e)
make_closed way room (make.leaving old new names left) answer e = goes_down_so new names left
make_closed way room (make.closing h hs why) answer e = make_given_up hs why
make_closed way room m answer e = absurd (false≢true e)

-- a step that isn't made opens nothing
pub refused_opens_none : (below : Below) (room : Bool) (doing : Doing) (error : Errno) → ClosesToNone doing → EndsInNone (take below room doing (Refused error))
refused_opens_none below room (walking w aim) error none =
    walked_to_none below room aim (walk.take (way_of below aim) room w (Refused error)) (walk_refused (way_of below aim) room w error)
refused_opens_none below room (acting wanted step hs) error none = closes_to hs (reply_to wanted (Refused error)) (replies_none wanted (Refused error))
refused_opens_none below room (checking old new renaming) error none = tt
refused_opens_none below room (closing h hs after) error none = closing_on h hs after none
refused_opens_none below room (making m) error none = makes_to_none (make.take (make_way below) room m (Refused error)) (make_refused (make_way below) room m error)
refused_opens_none below room (removing r) error none = cleared_so (remove.take room r (Refused error))
refused_opens_none below room (releasing h) error none = replies_none wants.Done (Refused error)

-- nor does a Close
pub close_opens_none : (below : Below) (room : Bool) (doing : Doing) (answer : Answer) → is_close (due below doing) ≡ true → ClosesToNone doing
    → EndsInNone (take below room doing answer)
close_opens_none below room (walking w aim) answer e none =
    walked_to_none below room aim (walk.take (way_of below aim) room w answer) (walk_closed (way_of below aim) room w answer e)
close_opens_none below room (acting wanted step hs) answer e none = closes_to hs (reply_to wanted answer) (replies_none wanted answer)
close_opens_none below room (checking old new renaming) answer e none = absurd (false≢true e)
close_opens_none below room (closing h hs after) answer e none = closing_on h hs after none
close_opens_none below room (making m) answer e none = makes_to_none (make.take (make_way below) room m answer) (make_closed (make_way below) room m answer e)
close_opens_none below room (removing r) answer e none = cleared_so (remove.take room r answer)
close_opens_none below room (releasing h) answer e none = replies_none wants.Done answer

-- ---- any step

-- a turn beside a call's answers
plain_so : (turn : CallTurn) → IsPlain turn → GoesToNone turn
plain_so (more (closing h hs (gives (fault error)))) plain = tt
plain_so (more (closing h hs (gives reply))) plain = absurd plain
plain_so (more doing) plain = tt
plain_so (ends reply) plain = tt

taken_so : (below : Below) (room : Bool) (doing : Doing) (answer : Answer) → ClosesToNone doing → GoesToNone (take below room doing answer)
taken_so below room (walking w aim) answer none =
    let turn = walk.take (way_of below aim) room w answer in
    plain_so (call.walked below room aim turn) (walked_plain below room aim turn)
taken_so below room (acting wanted step hs) answer none =
    goes_too (call.closes hs (gives (reply_to wanted answer))) (closes_to hs (reply_to wanted answer) (replies_none wanted answer))
taken_so below room (checking old new renaming) (Opened h x kind) none =
    plain_so (checked old new renaming h (is_dir_kind kind)) (checked_plain old new renaming h (is_dir_kind kind))
taken_so below room (checking old new renaming) answer none = tt
taken_so below room (closing h hs after) answer none = goes_too (call.closes hs after) (closing_on h hs after none)
taken_so below room (making m) answer none =
    let turn = make.take (make_way below) room m answer in
    plain_so (makes turn) (made_plain turn)
taken_so below room (removing r) answer none = goes_too (removing_turn (remove.take room r answer)) (cleared_so (remove.take room r answer))
taken_so below room (releasing h) answer none = tt

starts_so : (below : Below) (room : Bool) (op : Op) → GoesToNone (starts below room op)
starts_so below room op = plain_so (starts below room op) (starts_plain below room op)

-- ---- an actor's turns

abbrev pub CallGoesToNone : Option CallView → Type 0
CallGoesToNone None = Unit {0}
CallGoesToNone (Some view) = ClosesToNone view.doing

comes_so : (ledger : LedgerView) (below : Below) (t : CallTurn) → GoesToNone t → CallGoesToNone (comes ledger below t).doing
comes_so ledger below (more doing) none = none
comes_so ledger below (ends reply) none = tt

begins_so : (room : Bool) (ledger : LedgerView) (request : Option Request) → CallGoesToNone (begins room ledger request).doing
begins_so room ledger None = tt
begins_so room ledger (Some request) =
    let below = below_of ledger.root request.flags in comes_so ledger below (starts below room request.op) (starts_so below room request.op)

next_so : (room : Bool) (ledger : LedgerView) (calls : List Planned) → CallGoesToNone (begins_next room ledger calls).doing
next_so room ledger [] = tt
next_so room ledger (next ∷ others) =
    begins_so room (record ledger { to_come = others; standings = left_by next ledger.standings }) (request_of ledger.root ledger.standings next)

begun_so : (room : Bool) (ledger : LedgerView) (doing : Option CallView) → CallGoesToNone doing → CallGoesToNone (begun room ledger doing).doing
begun_so room ledger None none = next_so room ledger ledger.to_come
begun_so room ledger (Some view) none = none

goes_so : (luck room : Bool) (book : BookedHistory) (ledger : LedgerView) (doing : Option CallView) → CallGoesToNone doing
    → CallGoesToNone (goes_on luck room book ledger doing).seat.doing
goes_so luck room book ledger None none = tt
goes_so luck room book ledger (Some view) none =
    let answer : Answer = (stepped_by luck book ledger.root.owner.actor (due view.below view.doing)).answer in
    comes_so ledger view.below (take view.below room view.doing answer) (taken_so view.below room view.doing answer none)

turned_so : (luck : Luck) (book : BookedHistory) (ledger : LedgerView) (doing : Option CallView) → CallGoesToNone doing
    → CallGoesToNone (turned luck book ledger doing).seat.doing
turned_so luck book ledger doing none =
    let seat : Seat = begun luck.start ledger doing in goes_so luck.step luck.room book seat.ledger seat.doing (begun_so luck.start ledger doing none)

-- ---- all actors

abbrev pub AllGoToNone : List Seat → Type 0
AllGoToNone = EachSeat (λ seat. CallGoesToNone seat.doing)

pub opened_so : (ledgers : List LedgerView) → AllGoToNone (seats_of ledgers)
opened_so [] = tt
opened_so (ledger ∷ ledgers) = (tt, opened_so ledgers)

pub turns_go_to_none : (w : WorldView) (made : List ℕ) (v : WorldView) → TakesTurns w made v → AllGoToNone w.seats → AllGoToNone v.seats
turns_go_to_none w [] v taken all = subst (λ (u : WorldView). AllGoToNone u.seats) (sym taken) all
turns_go_to_none w (i ∷ made) v taken all =
    let one = taken.1.1 in
    turns_go_to_none taken.0 made v taken.2 (subst (λ (u : WorldView). AllGoToNone u.seats) (sym one.is)
    (turn_keeps (λ seat. CallGoesToNone seat.doing) (λ luck book seat none. turned_so luck book seat.ledger seat.doing none)
    one.luck w i all))
