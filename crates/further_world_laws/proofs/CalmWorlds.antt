-- With memory for all no actor comes to tell of a want of memory.
use Rattle.std.specs.Prelude.{◌≡◌, ◌≢◌, ◌⊎◌, ◌||◌, ℕ, zero, suc, List, [], ◌∷◌, ◌++◌, Bool, true, false, length, Option, Some, None, slice_get, slice_set, refl}
use Rattle.std.proofs.Common.{inl, inr, sym, ap, subst, ◌∙◌, append-nil, append_assoc}
use Rattle.std.proofs.lemmas.Bool.{false≢true, cases_eq}
use Rattle.std.proofs.lemmas.Option.{same_Some}
use Rattle.path_text.specs.declared.errno.Errno.TheVariants.{BadHandle}
use Rattle.path_text.proofs.TextLemmas.{or_false}
use Rattle.tree_model.specs.declared.answer.Answer.{Answer}
use Rattle.tree_model.proofs.StepLaws.{slice_get-set_other}
use Rattle.root_ops.specs.declared.below.Below.{Below}
use Rattle.root_ops.specs.declared.op.Request.{Request}
use Rattle.root_ops.specs.Order.{CallTurn, more, ends, starts, take, due}
use Rattle.root_ops.specs.Order as call
use Rattle.root_ops.specs.TurnView.{below_of}
use Rattle.root_ops.specs.View.{CallView}
use Rattle.race_core.specs.declared.plan.Planned.{Planned}
use Rattle.race_core.specs.declared.report.Outcome.{Outcome}
use Rattle.race_core.specs.declared.seat.Seat.{Seat}
use Rattle.race_core.specs.Book.{BookedHistory}
use Rattle.race_core.specs.Ledgers.{LedgerView}
use Rattle.race_core.specs.OneReport.{full, HadMemory, AllHadMemory}
use Rattle.race_core.specs.Turns.{Luck, stepped_by, outcome_of, comes, begins, begins_next, begun, goes_on, turned, request_of, left_by}
use Rattle.race_core.specs.Worlds.{WorldView, turn_of, turn, Runs, again, AllGoToEnd, numbers_below, ledgers_in, replies_in}
use Rattle.race_core.proofs.WorldSoFar.{placed_there}
use Rattle.local_states.specs.OutOfMemory.{outcome_out_of_memory, any_out_of_memory, call_out_of_memory, seat_out_of_memory, seats_out_of_memory, replies_out_of_memory}
use Rattle.local_states.proofs.OutOfMemory.OutOfMemoryWorlds.{same_out_of_memory}
use Rattle.further_world_laws.specs.WantCauses.{BringsNoWant, MemoryBringsNoWant, LackedMemory, WantHasATurn, ReportsWithMemoryTellNone}
use Rattle.further_world_laws.proofs.CalmCalls.{TurnIsCalm, take_calm, starts_calm}
use Rattle.further_world_laws.proofs.CalmSteps.{stepped_calm}

-- ---- booleans

neither : (a b : Bool) → a ≡ false → b ≡ false → (a || b) ≡ false
neither true b e f = absurd (false≢true (sym e))
neither false b e f = f

any_both : (before after : List Outcome) → any_out_of_memory before ≡ false → any_out_of_memory after ≡ false
    → any_out_of_memory (before ++ after) ≡ false
any_both [] after e f = f
any_both (o ∷ before) after e f =
    neither (outcome_out_of_memory o) (any_out_of_memory (before ++ after))
    (or_false (outcome_out_of_memory o) (any_out_of_memory before) e).0
    (any_both before after (or_false (outcome_out_of_memory o) (any_out_of_memory before) e).1 f)

-- ---- a turn

one_calm : (outcome : Outcome) → outcome_out_of_memory outcome ≡ false → any_out_of_memory (outcome ∷ []) ≡ false
one_calm outcome e = neither (outcome_out_of_memory outcome) false e refl

-- what is added to this ledger's outcomes
abbrev Brings : LedgerView → Seat → Type 0
Brings ledger new = BringsNoWant (record { ledger = ledger; doing = None }) new

comes_calm : (ledger : LedgerView) (below : Below) (t : CallTurn) → TurnIsCalm t → Brings ledger (comes ledger below t)
comes_calm ledger below (more doing) calm =
    record { news = []; told = sym (append-nil ledger.outcomes); none = refl; under_way = calm }
comes_calm ledger below (ends reply) calm = record {
  news = outcome_of reply ∷ [];
  told = refl;
  none = one_calm (outcome_of reply) (same_out_of_memory reply ∙ calm);
  under_way = refl;
}

begins_calm : (ledger : LedgerView) (request : Option Request) → Brings ledger (begins true ledger request)
begins_calm ledger None =
    record { news = outcome_of (call.fault BadHandle) ∷ []; told = refl; none = refl; under_way = refl }
begins_calm ledger (Some request) =
    let below : Below = below_of ledger.root request.flags in
    comes_calm ledger below (starts below true request.op) (starts_calm below request.op)

next_calm : (ledger : LedgerView) (calls : List Planned) → Brings ledger (begins_next true ledger calls)
next_calm ledger [] = record { news = []; told = sym (append-nil ledger.outcomes); none = refl; under_way = refl }
next_calm ledger (next ∷ others) =
    let begun_ledger : LedgerView = record ledger { to_come = others; standings = left_by next ledger.standings } in
    let brought = begins_calm begun_ledger (request_of ledger.root ledger.standings next) in
    record { news = brought.news; told = brought.told; none = brought.none; under_way = brought.under_way }

begun_calm : (ledger : LedgerView) (doing : Option CallView) → call_out_of_memory doing ≡ false
    → Brings ledger (begun true ledger doing)
begun_calm ledger None calm = next_calm ledger ledger.to_come
begun_calm ledger (Some view) calm =
    record { news = []; told = sym (append-nil ledger.outcomes); none = refl; under_way = calm }

goes_calm : (book : BookedHistory) (ledger : LedgerView) (doing : Option CallView) → call_out_of_memory doing ≡ false
    → Brings ledger (goes_on true true book ledger doing).seat
goes_calm book ledger None calm =
    record { news = []; told = sym (append-nil ledger.outcomes); none = refl; under_way = refl }
goes_calm book ledger (Some view) calm =
    let answer : Answer = (stepped_by true book ledger.root.owner.actor (due view.below view.doing)).answer in
    comes_calm ledger view.below (take view.below true view.doing answer)
    (take_calm view.below view.doing answer calm
    (stepped_calm book ledger.root.owner.actor (due view.below view.doing)))

pub memory_brings_no_want : MemoryBringsNoWant
memory_brings_no_want book seat calm =
    let middle : Seat = begun true seat.ledger seat.doing in
    let first = begun_calm seat.ledger seat.doing calm in
    let second = goes_calm book middle.ledger middle.doing first.under_way in
    record {
      news = first.news ++ second.news;
      told = second.told ∙ (ap (λ (os : List Outcome). os ++ second.news) first.told
          ∙ append_assoc seat.ledger.outcomes first.news second.news);
      none = any_both first.news second.news first.none second.none;
      under_way = second.under_way;
    }

-- ---- worlds

seat_calm : (book : BookedHistory) (seat : Seat) → seat_out_of_memory seat ≡ false
    → seat_out_of_memory (turned full book seat.ledger seat.doing).seat ≡ false
seat_calm book seat calm =
    let brought = memory_brings_no_want book seat
    (or_false (any_out_of_memory seat.ledger.outcomes) (call_out_of_memory seat.doing) calm).1 in
    let new : Seat = (turned full book seat.ledger seat.doing).seat in
    neither (any_out_of_memory new.ledger.outcomes) (call_out_of_memory new.doing)
    (ap any_out_of_memory brought.told
    ∙ any_both seat.ledger.outcomes brought.news
    (or_false (any_out_of_memory seat.ledger.outcomes) (call_out_of_memory seat.doing) calm).0 brought.none)
    brought.under_way

-- ---- one actor

is_full : (luck : Luck) → (luck ≡ full) ⊎ (luck ≢ full)
is_full luck = on luck.start luck.step luck.room refl refl refl
  where
    on : (a b c : Bool) → luck.start ≡ a → luck.step ≡ b → luck.room ≡ c → (luck ≡ full) ⊎ (luck ≢ full)
    on true true true e f g = inl (λ i. record { start = e i; step = f i; room = g i })
    on true true false e f g = inr (λ q. false≢true (sym g ∙ ap (λ (l : Luck). l.room) q))
    on true false c e f g = inr (λ q. false≢true (sym f ∙ ap (λ (l : Luck). l.step) q))
    on false b c e f g = inr (λ q. false≢true (sym e ∙ ap (λ (l : Luck). l.start) q))

-- another actor's turn leaves the seat
turn_elsewhere : (luck : Luck) (w : WorldView) (j i : ℕ) (o : Option Seat) → i ≢ j
    → slice_get (turn_of luck w j o).seats i ≡ slice_get w.seats i
turn_elsewhere luck w j i None ne = refl
turn_elsewhere luck w j i (Some seat) ne =
    slice_get-set_other w.seats j (turned luck w.book seat.ledger seat.doing).seat i ne

module _ (j : ℕ) (is : List ℕ) (w v : WorldView) (ran : Runs w (j ∷ is) v) (i : ℕ) (old : Seat)
    (at : slice_get w.seats i ≡ Some old) (calm : seat_out_of_memory old ≡ false) where
  -- what follows from the seat after the first turn
  abbrev Onward : Type 0
  Onward = (next : Seat) → slice_get (turn ran.0 w j).seats i ≡ Some next → seat_out_of_memory next ≡ false
      → LackedMemory i (turn ran.0 w j) is v ran.1

  its_turn : j ≡ i → Onward → (ran.0 ≡ full) ⊎ (ran.0 ≢ full) → LackedMemory i w (j ∷ is) v ran
  its_turn mine onward (inr lacked) = inl (mine, lacked)
  its_turn mine onward (inl had) =
      let next : Seat = (turned ran.0 w.book old.ledger old.doing).seat in
      let there : slice_get (turn ran.0 w j).seats i ≡ Some next =
      subst (λ (k : ℕ). slice_get (turn ran.0 w k).seats i ≡ Some next) (sym mine)
      (ap (λ (o : Option Seat). slice_get (turn_of ran.0 w i o).seats i) at ∙ placed_there w.seats i old next at) in
      let still : seat_out_of_memory next ≡ false =
      subst (λ (luck : Luck). seat_out_of_memory (turned luck w.book old.ledger old.doing).seat ≡ false) (sym had)
      (seat_calm w.book old calm) in
      inr (onward next there still)

  one_turn : Onward → (i ≡ j) ⊎ (i ≢ j) → LackedMemory i w (j ∷ is) v ran
  one_turn onward (inl mine) = its_turn (sym mine) onward (is_full ran.0)
  one_turn onward (inr ne) = inr (onward old (turn_elsewhere ran.0 w j i (slice_get w.seats j) ne ∙ at) calm)

pub want_has_a_turn : WantHasATurn
want_has_a_turn [] w v ran i old new at then calm wants =
    let same : old ≡ new =
    same_Some old new (sym at ∙ (ap (λ (u : WorldView). slice_get u.seats i) (sym ran) ∙ then)) in
    absurd (false≢true (sym calm ∙ (ap seat_out_of_memory same ∙ wants)))
want_has_a_turn (j ∷ is) w v ran i old new at then calm wants =
    one_turn j is w v ran i old at calm
    (λ next there still. want_has_a_turn is (turn ran.0 w j) v ran.1 i next new there then still wants)
    (cases_eq i j)

-- ---- all actors

set_calm : (seats : List Seat) (i : ℕ) (old new : Seat) → slice_get seats i ≡ Some old
    → (seat_out_of_memory old ≡ false → seat_out_of_memory new ≡ false) → seats_out_of_memory seats ≡ false
    → seats_out_of_memory (slice_set seats i new) ≡ false
set_calm [] i old new e keeps calm = refl
set_calm (s ∷ seats) zero old new e keeps calm =
    neither (seat_out_of_memory new) (seats_out_of_memory seats)
    (keeps (sym (ap seat_out_of_memory (same_Some s old e))
    ∙ (or_false (seat_out_of_memory s) (seats_out_of_memory seats) calm).0))
    (or_false (seat_out_of_memory s) (seats_out_of_memory seats) calm).1
set_calm (s ∷ seats) (suc i) old new e keeps calm =
    neither (seat_out_of_memory s) (seats_out_of_memory (slice_set seats i new))
    (or_false (seat_out_of_memory s) (seats_out_of_memory seats) calm).0
    (set_calm seats i old new e keeps (or_false (seat_out_of_memory s) (seats_out_of_memory seats) calm).1)

turn_calm : (w : WorldView) (i : ℕ) → seats_out_of_memory w.seats ≡ false
    → seats_out_of_memory (turn full w i).seats ≡ false
turn_calm w i calm = on (slice_get w.seats i) refl
  where
    on : (o : Option Seat) → slice_get w.seats i ≡ o → seats_out_of_memory (turn_of full w i o).seats ≡ false
    on None e = calm
    on (Some seat) e = set_calm w.seats i seat (turned full w.book seat.ledger seat.doing).seat e
        (λ before. seat_calm w.book seat before) calm

run_calm : (is : List ℕ) (w v : WorldView) (ran : Runs w is v) → HadMemory w is v ran
    → seats_out_of_memory w.seats ≡ false → seats_out_of_memory v.seats ≡ false
run_calm [] w v ran had calm = ap (λ (u : WorldView). seats_out_of_memory u.seats) ran ∙ calm
run_calm (i ∷ is) w v ran had calm =
    run_calm is (turn ran.0 w i) v ran.1 had.1
    (subst (λ (luck : Luck). seats_out_of_memory (turn luck w i).seats ≡ false) (sym had.0) (turn_calm w i calm))

all_calm : (is : List ℕ) (w v : WorldView) (gone : AllGoToEnd w is v) → AllHadMemory w is v gone
    → seats_out_of_memory w.seats ≡ false → seats_out_of_memory v.seats ≡ false
all_calm [] w v gone had calm = ap (λ (u : WorldView). seats_out_of_memory u.seats) gone ∙ calm
all_calm (i ∷ is) w v gone had calm =
    all_calm is gone.0 v gone.2 had.1 (run_calm (again i gone.1.turns) w gone.0 gone.1.run had.0 calm)

told_calm : (seats : List Seat) → seats_out_of_memory seats ≡ false
    → replies_out_of_memory (replies_in (ledgers_in seats)) ≡ false
told_calm [] calm = refl
told_calm (s ∷ seats) calm =
    neither (any_out_of_memory s.ledger.outcomes) (replies_out_of_memory (replies_in (ledgers_in seats)))
    (or_false (any_out_of_memory s.ledger.outcomes) (call_out_of_memory s.doing)
    (or_false (seat_out_of_memory s) (seats_out_of_memory seats) calm).0).0
    (told_calm seats (or_false (seat_out_of_memory s) (seats_out_of_memory seats) calm).1)

pub reports_with_memory_tell_none : ReportsWithMemoryTellNone
reports_with_memory_tell_none w schedule tree events replies kept ran calm had =
    ap replies_out_of_memory ran.reports.are_replies
    ∙ told_calm ran.end.seats
    (all_calm (numbers_below (length w.seats)) ran.runs.middle ran.end ran.runs.rest had.rest
    (run_calm schedule w ran.runs.middle ran.runs.scheduled had.scheduled calm))
