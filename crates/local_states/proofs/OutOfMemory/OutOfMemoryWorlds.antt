-- An actor that found no memory tells of it in the end; so a run in which nobody does had memory for all.
use Rattle.std.specs.Prelude.{◌≡◌, ℕ, zero, suc, List, [], ◌∷◌, ◌++◌, Bool, true, false, ◌||◌, Option, Some, None, is_some, slice_get, slice_set, if◌then◌else◌, refl}
use Rattle.std.proofs.Common.{◌⊎◌, inl, inr, sym, ap, ◌∙◌, subst, ⊎_elim}
use Rattle.std.proofs.lemmas.Bool.{false≢true, true≢false, or_left, or_right, or_cases}
use Rattle.std.proofs.lemmas.Option.{none-some, same_Some}
use Rattle.path_text.specs.declared.errno.Errno.TheVariants.{NoMemory}
use Rattle.tree_model.specs.declared.answer.Answer.TheVariants.{Refused}
use Rattle.root_ops.specs.declared.below.Below.{Below}
use Rattle.root_ops.specs.declared.op.Request.{Request}
use Rattle.root_ops.specs.Order.{Reply, CallTurn, take, due}
use Rattle.root_ops.specs.Order as call
use Rattle.root_ops.specs.TurnView.{below_of}
use Rattle.root_ops.specs.View.{CallView}
use Rattle.race_core.specs.declared.plan.Planned.{Planned}
use Rattle.race_core.specs.declared.report.Outcome.{Outcome}
use Rattle.race_core.specs.declared.seat.Seat.{Seat}
use Rattle.race_core.specs.Book.{BookedHistory, is_close, refusal}
use Rattle.race_core.specs.Ledgers.{LedgerView}
use Rattle.race_core.specs.Turns.{Luck, Stepped, unless_refused, outcome_of, comes, begins, begins_next, begun, Turned, goes_on, turned, request_of, left_by}
use Rattle.race_core.specs.Worlds.{WorldView, turn_of, turn, ledgers_in, replies_in, AllOver, Runs}
use Rattle.local_states.specs.Worlds.{full, after_turns}
use Rattle.local_states.specs.OutOfMemory.{doing_out_of_memory, reply_out_of_memory, turn_out_of_memory, outcome_out_of_memory, any_out_of_memory, call_out_of_memory, seat_out_of_memory, seats_out_of_memory, replies_out_of_memory, OutOfMemoryIsTold, OutOfMemoryStays, RunsWithoutOutOfMemoryAreFull}
use Rattle.layered_search.proofs.Places.{ap_at, join}
use Rattle.local_states.proofs.OutOfMemory.OutOfMemoryCalls.{stays, room_tells, refused_tells, start_tells}

-- ---- outcomes

any_before : (before after : List Outcome) → any_out_of_memory before ≡ true
    → any_out_of_memory (before ++ after) ≡ true
any_before [] after e = absurd (false≢true e)
any_before (first ∷ before) after e =
    ⊎_elim (λ one. or_left (outcome_out_of_memory first) _ one)
    (λ rest. or_right (outcome_out_of_memory first) _ (any_before before after rest))
    (or_cases (outcome_out_of_memory first) (any_out_of_memory before) e)

any_last : (before : List Outcome) (last : Outcome) → outcome_out_of_memory last ≡ true
    → any_out_of_memory (before ++ last ∷ []) ≡ true
any_last [] last e = or_left (outcome_out_of_memory last) false e
any_last (first ∷ before) last e = or_right (outcome_out_of_memory first) _ (any_last before last e)

pub same_out_of_memory : (reply : Reply) → outcome_out_of_memory (outcome_of reply) ≡ reply_out_of_memory reply
same_out_of_memory (call.opened handle names) = refl
same_out_of_memory (call.link_text text) = refl
same_out_of_memory call.done = refl
same_out_of_memory (call.count n) = refl
same_out_of_memory (call.stepped answer) = refl
same_out_of_memory (call.kept standing) = refl
same_out_of_memory (call.fault error) = refl

-- ---- a seat

comes_out_of_memory : (ledger : LedgerView) (below : Below) (turn : CallTurn) → turn_out_of_memory turn ≡ true
    → seat_out_of_memory (comes ledger below turn) ≡ true
comes_out_of_memory ledger below (call.more doing) e = or_right (any_out_of_memory ledger.outcomes) _ e
comes_out_of_memory ledger below (call.ends reply) e =
    or_left _ false (any_last ledger.outcomes (outcome_of reply) (same_out_of_memory reply ∙ e))

comes_keeps : (ledger : LedgerView) (below : Below) (turn : CallTurn) → any_out_of_memory ledger.outcomes ≡ true
    → seat_out_of_memory (comes ledger below turn) ≡ true
comes_keeps ledger below (call.more doing) e = or_left (any_out_of_memory ledger.outcomes) _ e
comes_keeps ledger below (call.ends reply) e = or_left _ false (any_before ledger.outcomes _ e)

begins_keeps : (room : Bool) (ledger : LedgerView) (request : Option Request) → any_out_of_memory ledger.outcomes ≡ true
    → seat_out_of_memory (begins room ledger request) ≡ true
begins_keeps room ledger None e = or_left _ false (any_before ledger.outcomes _ e)
begins_keeps room ledger (Some request) e = comes_keeps ledger (below_of ledger.root request.flags) _ e

begun_stays : (room : Bool) (ledger : LedgerView) (doing : Option CallView)
    → seat_out_of_memory (record { ledger = ledger; doing = doing }) ≡ true
    → seat_out_of_memory (begun room ledger doing) ≡ true
begun_stays room ledger (Some view) e = e
begun_stays room ledger None e = by ledger.to_come
  where
    any : any_out_of_memory ledger.outcomes ≡ true
    any = ⊎_elim (λ q. q) (λ q. absurd (false≢true q)) (or_cases (any_out_of_memory ledger.outcomes) false e)

    by : (to_come : List Planned) → seat_out_of_memory (begins_next room ledger to_come) ≡ true
    by [] = e
    by (next ∷ others) =
        begins_keeps room (record ledger { to_come = others; standings = left_by next ledger.standings })
        (request_of ledger.root ledger.standings next) any

goes_on_stays : (luck room : Bool) (book : BookedHistory) (ledger : LedgerView) (doing : Option CallView)
    → seat_out_of_memory (record { ledger = ledger; doing = doing }) ≡ true
    → seat_out_of_memory (goes_on luck room book ledger doing).seat ≡ true
goes_on_stays luck room book ledger None e = e
goes_on_stays luck room book ledger (Some view) e =
    ⊎_elim (λ any. comes_keeps ledger view.below _ any)
    (λ wants. comes_out_of_memory ledger view.below _ (stays view.below room view.doing _ wants))
    (or_cases (any_out_of_memory ledger.outcomes) (doing_out_of_memory view.doing) e)

pub out_of_memory_stays : OutOfMemoryStays
out_of_memory_stays luck book seat e =
    let now = begun luck.start seat.ledger seat.doing in
    goes_on_stays luck.step luck.room book now.ledger now.doing (begun_stays luck.start seat.ledger seat.doing e)

begins_tells : (ledger : LedgerView) (request : Option Request)
    → (begins false ledger request ≡ begins true ledger request)
    ⊎ (seat_out_of_memory (begins false ledger request) ≡ true)
begins_tells ledger None = inl refl
begins_tells ledger (Some request) =
    let below = below_of ledger.root request.flags in
    ⊎_elim (λ e. inl (ap (comes ledger below) e)) (λ e. inr (comes_out_of_memory ledger below _ e))
    (start_tells below request.op)

begun_tells : (room : Bool) (ledger : LedgerView) (doing : Option CallView)
    → (begun room ledger doing ≡ begun true ledger doing) ⊎ (seat_out_of_memory (begun room ledger doing) ≡ true)
begun_tells true ledger doing = inl refl
begun_tells false ledger (Some view) = inl refl
begun_tells false ledger None = by ledger.to_come
  where
    by : (to_come : List Planned)
        → (begins_next false ledger to_come ≡ begins_next true ledger to_come)
        ⊎ (seat_out_of_memory (begins_next false ledger to_come) ≡ true)
    by [] = inl refl
    by (next ∷ others) =
        begins_tells (record ledger { to_come = others; standings = left_by next ledger.standings })
        (request_of ledger.root ledger.standings next)

-- the turn once the step has come to that
abbrev after_step : Bool → LedgerView → CallView → Stepped → Turned
after_step room ledger view step =
    record { book = step.book; seat = comes ledger view.below (take view.below room view.doing step.answer) }

room_goes : (room : Bool) (ledger : LedgerView) (view : CallView) (step : Stepped)
    → (after_step room ledger view step ≡ after_step true ledger view step)
    ⊎ (seat_out_of_memory (after_step room ledger view step).seat ≡ true)
room_goes true ledger view step = inl refl
room_goes false ledger view step =
    ⊎_elim (λ e. inl (λ i. record { book = step.book; seat = comes ledger view.below (e i) }))
    (λ e. inr (comes_out_of_memory ledger view.below _ e))
    (room_tells view.below view.doing step.answer)

-- the step of that actor, where it is made and where there is no memory for it
abbrev made_by : BookedHistory → ℕ → CallView → Bool → Stepped
made_by book a view made =
    if made then unless_refused book a (due view.below view.doing) (refusal book a (due view.below view.doing))
    else record { answer = Refused NoMemory; book = book }

goes_on_tells : (luck room : Bool) (book : BookedHistory) (ledger : LedgerView) (doing : Option CallView)
    → (goes_on luck room book ledger doing ≡ goes_on true true book ledger doing)
    ⊎ (seat_out_of_memory (goes_on luck room book ledger doing).seat ≡ true)
goes_on_tells luck room book ledger None = inl refl
goes_on_tells true room book ledger (Some view) =
    room_goes room ledger view (made_by book ledger.root.owner.actor view true)
goes_on_tells false room book ledger (Some view) = by (is_close (due view.below view.doing)) refl
  where
    by : (made : Bool) → is_close (due view.below view.doing) ≡ made
        → (after_step room ledger view
        (made_by book ledger.root.owner.actor view (is_close (due view.below view.doing)))
        ≡ after_step true ledger view (made_by book ledger.root.owner.actor view true))
        ⊎ (seat_out_of_memory
        (after_step room ledger view
        (made_by book ledger.root.owner.actor view (is_close (due view.below view.doing)))).seat ≡ true)
    by true e =
        subst (λ made. (after_step room ledger view (made_by book ledger.root.owner.actor view made)
        ≡ after_step true ledger view (made_by book ledger.root.owner.actor view true))
        ⊎ (seat_out_of_memory (after_step room ledger view (made_by book ledger.root.owner.actor view made)).seat
        ≡ true))
        (sym e) (room_goes room ledger view (made_by book ledger.root.owner.actor view true))
    by false e =
        inr (subst (λ made. seat_out_of_memory
        (after_step room ledger view (made_by book ledger.root.owner.actor view made)).seat ≡ true) (sym e)
        (comes_out_of_memory ledger view.below _ (refused_tells view.below room view.doing e)))

-- a turn by the seat that was begun
told_by : (luck room : Bool) (book : BookedHistory) (now whole : Seat) → (now ≡ whole) ⊎ (seat_out_of_memory now ≡ true)
    → (goes_on luck room book now.ledger now.doing ≡ goes_on true true book whole.ledger whole.doing)
    ⊎ (seat_out_of_memory (goes_on luck room book now.ledger now.doing).seat ≡ true)
told_by luck room book now whole (inl same) =
    subst (λ (s : Seat). (goes_on luck room book now.ledger now.doing ≡ goes_on true true book s.ledger s.doing)
    ⊎ (seat_out_of_memory (goes_on luck room book now.ledger now.doing).seat ≡ true))
    same (goes_on_tells luck room book now.ledger now.doing)
told_by luck room book now whole (inr wants) = inr (goes_on_stays luck room book now.ledger now.doing wants)

pub out_of_memory_is_told : OutOfMemoryIsTold
out_of_memory_is_told luck book seat =
    told_by luck.step luck.room book (begun luck.start seat.ledger seat.doing) (begun true seat.ledger seat.doing)
    (begun_tells luck.start seat.ledger seat.doing)

-- ---- a world

set_stays : (seats : List Seat) (i : ℕ) (old new : Seat) → slice_get seats i ≡ Some old
    → (seat_out_of_memory old ≡ true → seat_out_of_memory new ≡ true)
    → seats_out_of_memory seats ≡ true → seats_out_of_memory (slice_set seats i new) ≡ true
set_stays [] i old new e keeps wants = wants
set_stays (seat ∷ seats) zero old new e keeps wants =
    ⊎_elim (λ one. or_left (seat_out_of_memory new) _
    (keeps (sym (ap seat_out_of_memory (same_Some seat old e)) ∙ one)))
    (λ rest. or_right (seat_out_of_memory new) _ rest)
    (or_cases (seat_out_of_memory seat) (seats_out_of_memory seats) wants)
set_stays (seat ∷ seats) (suc i) old new e keeps wants =
    ⊎_elim (λ one. or_left (seat_out_of_memory seat) _ one)
    (λ rest. or_right (seat_out_of_memory seat) _ (set_stays seats i old new e keeps rest))
    (or_cases (seat_out_of_memory seat) (seats_out_of_memory seats) wants)

set_out_of_memory : (seats : List Seat) (i : ℕ) (old new : Seat) → slice_get seats i ≡ Some old
    → seat_out_of_memory new ≡ true → seats_out_of_memory (slice_set seats i new) ≡ true
set_out_of_memory [] i old new e wants = absurd (none-some old e)
set_out_of_memory (seat ∷ seats) zero old new e wants = or_left (seat_out_of_memory new) _ wants
set_out_of_memory (seat ∷ seats) (suc i) old new e wants =
    or_right (seat_out_of_memory seat) _ (set_out_of_memory seats i old new e wants)

turn_stays : (luck : Luck) (w : WorldView) (i : ℕ) → seats_out_of_memory w.seats ≡ true
    → seats_out_of_memory (turn luck w i).seats ≡ true
turn_stays luck w i wants = by (slice_get w.seats i) refl
  where
    by : (seat : Option Seat) → slice_get w.seats i ≡ seat → seats_out_of_memory (turn_of luck w i seat).seats ≡ true
    by None e = wants
    by (Some seat) e = set_stays w.seats i seat (turned luck w.book seat.ledger seat.doing).seat e
        (out_of_memory_stays luck w.book seat) wants

pub turn_tells : (luck : Luck) (w : WorldView) (i : ℕ)
    → (turn luck w i ≡ turn full w i) ⊎ (seats_out_of_memory (turn luck w i).seats ≡ true)
turn_tells luck w i = by (slice_get w.seats i) refl
  where
    by : (seat : Option Seat) → slice_get w.seats i ≡ seat
        → (turn_of luck w i seat ≡ turn_of full w i seat) ⊎ (seats_out_of_memory (turn_of luck w i seat).seats ≡ true)
    by None e = inl refl
    by (Some seat) e =
        ⊎_elim
        (λ same. inl (ap_at (λ
        (t : Turned). record { book = t.book; seats = slice_set w.seats i t.seat; spent = w.spent })
        (turned luck w.book seat.ledger seat.doing) (turned full w.book seat.ledger seat.doing) same))
        (λ wants. inr (set_out_of_memory w.seats i seat (turned luck w.book seat.ledger seat.doing).seat e wants))
        (out_of_memory_is_told luck w.book seat)

pub run_stays : (w v : WorldView) (is : List ℕ) → Runs w is v → seats_out_of_memory w.seats ≡ true
    → seats_out_of_memory v.seats ≡ true
run_stays w v [] run wants = ap (λ (u : WorldView). seats_out_of_memory u.seats) run ∙ wants
run_stays w v (i ∷ is) run wants = run_stays (turn run.0 w i) v is run.1 (turn_stays run.0 w i wants)

quiet : (doing : Option CallView) (b : Bool) → (is_some doing || b) ≡ false → call_out_of_memory doing ≡ false
quiet None b e = refl
quiet (Some view) b e = absurd (true≢false e)

pub told_at_end : (seats : List Seat) → AllOver seats → seats_out_of_memory seats ≡ true
    → replies_out_of_memory (replies_in (ledgers_in seats)) ≡ true
told_at_end [] over wants = wants
told_at_end (seat ∷ seats) over wants =
    ⊎_elim
    (λ one. or_left (any_out_of_memory seat.ledger.outcomes) _
    (⊎_elim (λ e. e) (λ e. absurd (false≢true (sym (quiet seat.doing _ over.0) ∙ e)))
    (or_cases (any_out_of_memory seat.ledger.outcomes) (call_out_of_memory seat.doing) one)))
    (λ rest. or_right (any_out_of_memory seat.ledger.outcomes) _ (told_at_end seats over.1 rest))
    (or_cases (seat_out_of_memory seat) (seats_out_of_memory seats) wants)

pub runs_are_full : RunsWithoutOutOfMemoryAreFull
runs_are_full w v [] run over none = run
runs_are_full w v (i ∷ is) run over none =
    ⊎_elim
    (λ same. join v (after_turns (turn run.0 w i) is) (after_turns (turn full w i) is)
    (runs_are_full (turn run.0 w i) v is run.1 over none)
    (ap_at (λ (u : WorldView). after_turns u is) (turn run.0 w i) (turn full w i) same))
    (λ wants. absurd (true≢false (sym (told_at_end v.seats over (run_stays (turn run.0 w i) v is run.1 wants)) ∙ none)))
    (turn_tells run.0 w i)
