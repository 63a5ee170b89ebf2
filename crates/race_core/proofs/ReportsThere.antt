-- With memory for all each actor goes to its end, so that there is a report.
use Rattle.std.proofs.Common.{◌≡◌, ◌≢◌, ℕ, zero, suc, ◌+◌, ◌<◌, ◌≤◌, ◌==◌, List, [], ◌∷◌, ◌++◌, Bool, true, false, ◌||◌, length, Option, Some, None, is_some, slice_get, eqb-true, eq-eqb, refl, sym, ap, subst, ◌∙◌, arith}
use Rattle.std.proofs.lemmas.Bool.{false≢true}
use Rattle.tree_model.specs.StepWith.{StepWith}
use Rattle.tree_model.specs.History.{IsLegal}
use Rattle.tree_model.proofs.HistoryLaws.{IsLegal-append}
use Rattle.tree_model.proofs.StepLaws.{slice_get-set_other}
use Rattle.root_ops.specs.declared.below.Below.{Below}
use Rattle.root_ops.specs.declared.call.CallTurn.TheVariants as outcome
use Rattle.root_ops.specs.declared.op.Op.{Op}
use Rattle.root_ops.specs.declared.op.Request.{Request}
use Rattle.root_ops.specs.Order.{CallTurn, more, ends, starts, take, due, steps_left}
use Rattle.root_ops.specs.TurnView.{STEPS_MAX, below_of}
use Rattle.root_ops.specs.View.{CallView}
use Rattle.root_ops.proofs.Steps.{IsFewer, take_fewer}
use Rattle.root_ops.proofs.FirstSteps.{started_few}
use Rattle.race_core.specs.declared.plan.Planned.{Planned}
use Rattle.race_core.specs.declared.seat.Seat.{Seat}
use Rattle.race_core.specs.Book.{BookedHistory, tree_now, answer_now}
use Rattle.race_core.specs.Ledgers.{LedgerView}
use Rattle.race_core.specs.OneReport.{full, HadMemory, AllHadMemory, ReportsAreThere}
use Rattle.race_core.specs.TurnView.{are_some, turns_of, turns_left}
use Rattle.race_core.specs.Turns.{Luck, Stepped, stepped_by, turned, comes, begins, begins_next, goes_on, request_of, left_by}
use Rattle.race_core.specs.Worlds.{WorldView, turn_of, turn, Runs, again, GoesToEnd, AllGoToEnd, numbers_below, is_busy_in, is_busy_at, turns_in, turns_at, ledgers_in, replies_in, kept_in}
use Rattle.race_core.proofs.Running.{all_over}
use Rattle.race_core.proofs.JoinedRuns.{as_many}
use Rattle.race_core.proofs.OneEnd.{idle_turn_by}
use Rattle.race_core.proofs.WorldSoFar.{placed_there}
use Rattle.race_core.proofs.BookMoves.{StepEffect, was_made, was_not, was_shut, effect_of}

-- ---- with memory a turn of an actor who has something left to do leaves less of it

comes_fewer : (below : Below) (k : ℕ) (ledger : LedgerView) (t : CallTurn) → IsFewer below k t → turns_left (comes ledger below t) < suc k + turns_of ledger.to_come
comes_fewer below k ledger (more doing) few = omega (arith, few)
comes_fewer below k ledger (ends reply) few = omega arith

goes_fewer : (book : BookedHistory) (ledger : LedgerView) (call : CallView)
    → turns_left (goes_on true true book ledger (Some call)).seat < suc (steps_left call.below call.doing) + turns_of ledger.to_come
goes_fewer book ledger call =
    let step : Stepped = stepped_by true book ledger.root.owner.actor (due call.below call.doing) in
    comes_fewer call.below (steps_left call.below call.doing) ledger (take call.below true call.doing step.answer) (take_fewer call.below true call.doing step.answer)

goes_no_more : (book : BookedHistory) (ledger : LedgerView) (doing : Option CallView)
    → turns_left (goes_on true true book ledger doing).seat ≤ turns_left (record { ledger = ledger; doing = doing })
goes_no_more book ledger None = omega arith
goes_no_more book ledger (Some call) = omega (arith, goes_fewer book ledger call)

few_at_first : (below : Below) (op : Op) (t : CallTurn) → t ≡ starts below true op → IsFewer below (suc STEPS_MAX) t
few_at_first below op (more doing) is = let few = started_few below op (outcome.More (record { below = below; doing = doing })) (true, is) refl in omega (arith, few)
few_at_first below op (ends reply) is = tt

begins_few : (ledger : LedgerView) (request : Option Request) → turns_left (begins true ledger request) < suc (suc STEPS_MAX) + turns_of ledger.to_come
begins_few ledger None = omega arith
begins_few ledger (Some request) =
    let below = below_of ledger.root request.flags in
    comes_fewer below (suc STEPS_MAX) ledger (starts below true request.op) (few_at_first below request.op (starts below true request.op) refl)

next_fewer : (book : BookedHistory) (ledger : LedgerView) (calls : List Planned) → are_some calls ≡ true
    → turns_left (goes_on true true book (begins_next true ledger calls).ledger (begins_next true ledger calls).doing).seat < turns_of calls
next_fewer book ledger [] some = absurd (false≢true some)
next_fewer book ledger (next ∷ others) some =
    let at : LedgerView = record ledger { to_come = others; standings = left_by next ledger.standings } in
    let seat : Seat = begins true at (request_of ledger.root ledger.standings next) in
    let few = begins_few at (request_of ledger.root ledger.standings next) in
    let on = goes_no_more book seat.ledger seat.doing in
    omega (arith, few, on)

turned_fewer : (book : BookedHistory) (ledger : LedgerView) (doing : Option CallView) → (is_some doing || are_some ledger.to_come) ≡ true
    → turns_left (turned full book ledger doing).seat < turns_left (record { ledger = ledger; doing = doing })
turned_fewer book ledger (Some call) busy = goes_fewer book ledger call
turned_fewer book ledger None busy = let few = next_fewer book ledger ledger.to_come busy in omega (arith, few)

lower_on : (w : WorldView) (i : ℕ) (o : Option Seat) → slice_get w.seats i ≡ o → is_busy_in o ≡ true → turns_in (slice_get (turn_of full w i o).seats i) < turns_in o
lower_on w i None there busy = absurd (false≢true busy)
lower_on w i (Some seat) there busy =
    let next = (turned full w.book seat.ledger seat.doing).seat in
    subst (λ (o : Option Seat). turns_in o < turns_left seat) (sym (placed_there w.seats i seat next there)) (turned_fewer w.book seat.ledger seat.doing busy)

lower_at : (w : WorldView) (i : ℕ) → is_busy_at w.seats i ≡ true → turns_at (turn full w i).seats i < turns_at w.seats i
lower_at w i busy = lower_on w i (slice_get w.seats i) refl busy

-- ---- each goes to its end

record Goes (w : WorldView) (i : ℕ) : Type 0 where
  pub end : WorldView
  pub goes : GoesToEnd w i end
  pub had : HadMemory w (again i goes.turns) end goes.run

at_end : (w : WorldView) (i : ℕ) → is_busy_at w.seats i ≡ false → Goes w i
at_end w i over = record { end = w; goes = record { turns = 0; run = refl; over = over }; had = tt }

one_more : (w : WorldView) (i : ℕ) → Goes (turn full w i) i → Goes w i
one_more w i rest = record {
  end = rest.end;
  goes = record { turns = suc rest.goes.turns; run = (full, rest.goes.run); over = rest.goes.over };
  had = (refl, rest.had);
}

goes_by : (m : ℕ) (w : WorldView) (i : ℕ) → ((u : WorldView) → turns_at u.seats i ≤ m → Goes u i) → turns_at w.seats i ≤ suc m → (b : Bool) → is_busy_at w.seats i ≡ b → Goes w i
goes_by m w i onward few true busy = let less = lower_at w i busy in one_more w i (onward (turn full w i) (omega (arith, less, few)))
goes_by m w i onward few false over = at_end w i over

goes_at_once : (w : WorldView) (i : ℕ) → turns_at w.seats i ≤ 0 → (b : Bool) → is_busy_at w.seats i ≡ b → Goes w i
goes_at_once w i few true busy = let less = lower_at w i busy in absurd (omega (arith, less, few))
goes_at_once w i few false over = at_end w i over

goes_to_end : (n : ℕ) (w : WorldView) (i : ℕ) → turns_at w.seats i ≤ n → Goes w i
goes_to_end zero w i few = goes_at_once w i few (is_busy_at w.seats i) refl
goes_to_end (suc m) w i few = goes_by m w i (λ u less. goes_to_end m u i less) few (is_busy_at w.seats i) refl

record AllGo (w : WorldView) (is : List ℕ) : Type 0 where
  pub end : WorldView
  pub gone : AllGoToEnd w is end
  pub had : AllHadMemory w is end gone

all_go : (is : List ℕ) (w : WorldView) → AllGo w is
all_go [] w = record { end = w; gone = refl; had = tt }
all_go (i ∷ is) w =
    let one = goes_to_end (turns_at w.seats i) w i (omega arith) in
    let rest = all_go is one.end in
    record { end = rest.end; gone = (one.end, one.goes, rest.gone); had = (one.had, rest.had) }

record Ran (w : WorldView) (is : List ℕ) : Type 0 where
  pub end : WorldView
  pub run : Runs w is end
  pub had : HadMemory w is end run

all_run : (is : List ℕ) (w : WorldView) → Ran w is
all_run [] w = record { end = w; run = refl; had = tt }
all_run (i ∷ is) w = let rest = all_run is (turn full w i) in record { end = rest.end; run = (full, rest.run); had = (refl, rest.had) }

-- ---- who has nothing left to do has nothing left from then on

idle_stays : (luck : Luck) (w : WorldView) (i j : ℕ) → is_busy_at w.seats j ≡ false → is_busy_at (turn luck w i).seats j ≡ false
idle_stays luck w i j idle = by (i == j) refl
  where
    elsewhere : i ≢ j → (o : Option Seat) → slice_get (turn_of luck w i o).seats j ≡ slice_get w.seats j
    elsewhere ne None = refl
    elsewhere ne (Some seat) = slice_get-set_other w.seats i (turned luck w.book seat.ledger seat.doing).seat j (λ e. ne (sym e))

    by : (b : Bool) → (i == j) ≡ b → is_busy_at (turn luck w i).seats j ≡ false
    by true e =
        let same : i ≡ j = eqb-true i j e in
        subst (λ (k : ℕ). is_busy_at (turn luck w k).seats j ≡ false) (sym same)
        (ap (λ (u : WorldView). is_busy_at u.seats j) (idle_turn_by luck w j idle) ∙ idle)
    by false e = ap is_busy_in (elsewhere (λ q. false≢true (sym e ∙ eq-eqb i j q)) (slice_get w.seats i)) ∙ idle

idle_on : (is : List ℕ) (w v : WorldView) (j : ℕ) → Runs w is v → is_busy_at w.seats j ≡ false → is_busy_at v.seats j ≡ false
idle_on [] w v j run idle = ap (λ (u : WorldView). is_busy_at u.seats j) run ∙ idle
idle_on (i ∷ is) w v j run idle = idle_on is (turn run.0 w i) v j run.1 (idle_stays run.0 w i j idle)

idle_after : (is : List ℕ) (w v : WorldView) (j : ℕ) → AllGoToEnd w is v → is_busy_at w.seats j ≡ false → is_busy_at v.seats j ≡ false
idle_after [] w v j gone idle = ap (λ (u : WorldView). is_busy_at u.seats j) gone ∙ idle
idle_after (i ∷ is) w v j gone idle = idle_after is gone.0 v j gone.2 (idle_on (again i gone.1.turns) w gone.0 j gone.1.run idle)

-- those before are over, and so is the one after them
over_both : (is : List ℕ) (n : ℕ) (w v : WorldView) (j : ℕ) → AllGoToEnd w (is ++ n ∷ []) v
    → ((u : WorldView) → AllGoToEnd w is u → is_busy_at u.seats j ≡ false) → is_busy_at v.seats j ≡ false
over_both [] n w v j gone over = idle_after (n ∷ []) w v j gone (over w refl)
over_both (i ∷ is) n w v j gone over = over_both is n gone.0 v j gone.2 (λ u more_gone. over u (gone.0, gone.1, more_gone))

over_last : (is : List ℕ) (n : ℕ) (w v : WorldView) → AllGoToEnd w (is ++ n ∷ []) v → is_busy_at v.seats n ≡ false
over_last [] n w v gone = ap (λ (u : WorldView). is_busy_at u.seats n) gone.2 ∙ gone.1.over
over_last (i ∷ is) n w v gone = over_last is n gone.0 v gone.2

idle_by : (n : ℕ) (w v : WorldView) (j : ℕ) → AllGoToEnd w (numbers_below (suc n)) v → ((u : WorldView) → AllGoToEnd w (numbers_below n) u → j < n → is_busy_at u.seats j ≡ false)
    → j < suc n → (b : Bool) → (j == n) ≡ b → is_busy_at v.seats j ≡ false
idle_by n w v j gone before less true e = subst (λ (k : ℕ). is_busy_at v.seats k ≡ false) (sym (eqb-true j n e)) (over_last (numbers_below n) n w v gone)
idle_by n w v j gone before less false e =
    let apart : j ≢ n = λ q. false≢true (sym e ∙ eq-eqb j n q) in
    let lower : j < n = omega (arith, less, apart) in
    over_both (numbers_below n) n w v j gone (λ u first. before u first lower)

all_idle : (n : ℕ) (w v : WorldView) (j : ℕ) → AllGoToEnd w (numbers_below n) v → j < n → is_busy_at v.seats j ≡ false
all_idle zero w v j gone less = absurd (omega (arith, less))
all_idle (suc n) w v j gone less = idle_by n w v j gone (λ u before lower. all_idle n w u j before lower) less (j == n) refl

-- ---- the history stays legal

abbrev pub IsLegalBook : BookedHistory → Type 0
IsLegalBook book = IsLegal book.opening book.events

legal_step : (luck : Bool) (book : BookedHistory) (a : ℕ) (step : StepWith ℕ) (s : Stepped) → StepEffect book a step s → IsLegalBook book → IsLegalBook s.book
legal_step luck book a step s (was_made is) legal =
    subst IsLegalBook (sym (ap (λ (x : Stepped). x.book) is))
    (IsLegal-append book.opening book.events (record { actor = a; step = step; answer = answer_now book a step } ∷ []) legal (refl, tt))
legal_step luck book a step s (was_not error want closes is) legal = subst IsLegalBook (sym (ap (λ (x : Stepped). x.book) is)) legal
legal_step luck book a step s (was_shut shut is) legal = subst IsLegalBook (sym (ap (λ (x : Stepped). x.book) is)) legal

legal_on : (luck room : Bool) (book : BookedHistory) (ledger : LedgerView) (doing : Option CallView) → IsLegalBook book → IsLegalBook (goes_on luck room book ledger doing).book
legal_on luck room book ledger None legal = legal
legal_on luck room book ledger (Some call) legal =
    let step = due call.below call.doing in
    legal_step luck book ledger.root.owner.actor step (stepped_by luck book ledger.root.owner.actor step) (effect_of book ledger.root.owner.actor step luck) legal

pub legal_turn : (luck : Luck) (w : WorldView) (i : ℕ) (o : Option Seat) → IsLegalBook w.book → IsLegalBook (turn_of luck w i o).book
legal_turn luck w i None legal = legal
legal_turn luck w i (Some seat) legal = legal_on luck.step luck.room w.book _ _ legal

pub legal_run : (is : List ℕ) (w v : WorldView) → Runs w is v → IsLegalBook w.book → IsLegalBook v.book
legal_run [] w v run legal = subst (λ (u : WorldView). IsLegalBook u.book) (sym run) legal
legal_run (i ∷ is) w v run legal = legal_run is (turn run.0 w i) v run.1 (legal_turn run.0 w i (slice_get w.seats i) legal)

pub legal_after : (is : List ℕ) (w v : WorldView) → AllGoToEnd w is v → IsLegalBook w.book → IsLegalBook v.book
legal_after [] w v gone legal = subst (λ (u : WorldView). IsLegalBook u.book) (sym gone) legal
legal_after (i ∷ is) w v gone legal = legal_after is gone.0 v gone.2 (legal_run (again i gone.1.turns) w gone.0 gone.1.run legal)

-- ---- as many actors

as_many_run : (is : List ℕ) (w v : WorldView) → Runs w is v → length v.seats ≡ length w.seats
as_many_run [] w v run = ap (λ (u : WorldView). length u.seats) run
as_many_run (i ∷ is) w v run = as_many_run is (turn run.0 w i) v run.1 ∙ as_many run.0 w i (slice_get w.seats i)

as_many_after : (is : List ℕ) (w v : WorldView) → AllGoToEnd w is v → length v.seats ≡ length w.seats
as_many_after [] w v gone = ap (λ (u : WorldView). length u.seats) gone
as_many_after (i ∷ is) w v gone = as_many_after is gone.0 v gone.2 ∙ as_many_run (again i gone.1.turns) w gone.0 gone.1.run

pub reports_are_there : ReportsAreThere
reports_are_there w schedule memory within legal =
    let first = all_run schedule w in
    let middle = first.end in
    let rest = all_go (numbers_below (length w.seats)) middle in
    let end = rest.end in
    let many : length end.seats ≡ length w.seats = as_many_after (numbers_below (length w.seats)) middle end rest.gone ∙ as_many_run schedule w middle first.run in
    record {
      tree = tree_now end.book;
      events = end.book.events;
      replies = replies_in (ledgers_in end.seats);
      kept = kept_in (ledgers_in end.seats);
      run = record {
        had_memory = memory;
        within = within;
        end = end;
        runs = record { middle = middle; scheduled = first.run; rest = rest.gone };
        over = all_over end.seats (λ j less. all_idle (length w.seats) middle end j rest.gone (subst (λ (n : ℕ). j < n) many less));
        reports = record {
          is_tree = refl;
          are_events = refl;
          legal = legal_after (numbers_below (length w.seats)) middle end rest.gone (legal_run schedule w middle first.run legal);
          are_replies = refl;
          is_kept = refl;
        };
      };
      had = record { scheduled = first.had; rest = rest.had };
    }
