-- Turns with memory lead a world to one end.
use Rattle.std.proofs.Common.{◌≡◌, ℕ, zero, suc, List, [], ◌∷◌, false, length, Option, Some, None, is_some, slice_get, refl, sym, ap, subst, ◌∙◌}
use Rattle.std.specs.Prelude.{slice_set}
use Rattle.std.proofs.lemmas.Bool.{false≢true}
use Rattle.std.proofs.lemmas.Option.{same_Some}
use Rattle.path_text.proofs.TextLemmas.{or_false}
use Rattle.handles.specs.Objects.{StandingObject}
use Rattle.root_ops.specs.View.{CallView}
use Rattle.tree_model.specs.declared.answer.Event.{Event}
use Rattle.tree_model.specs.State.{State}
use Rattle.race_core.specs.declared.report.Outcome.{Outcome}
use Rattle.race_core.specs.declared.plan.Planned.{Planned}
use Rattle.race_core.specs.declared.seat.Seat.{Seat}
use Rattle.race_core.specs.Book.{BookedHistory, tree_now}
use Rattle.race_core.specs.Ledgers.{LedgerView}
use Rattle.race_core.specs.OneReport.{full, HadMemory, AllHadMemory, RanWithMemory, AreOne, OneReport}
use Rattle.race_core.specs.TurnView.{are_some}
use Rattle.race_core.specs.Turns.{Luck, Turned, turned, begins_next, goes_on}
use Rattle.race_core.specs.Worlds.{WorldView, turn_of, turn, Runs, again, GoesToEnd, AllGoToEnd, numbers_below, is_busy_in, is_busy_at, ledgers_in, replies_in, kept_in, RunsOut, RunsTo}

-- the world after these turns, with memory for all
abbrev pub plays : WorldView → List ℕ → WorldView
plays w [] = w
plays w (i ∷ is) = plays (turn full w i) is

played : (is : List ℕ) (w v : WorldView) (ran : Runs w is v) → HadMemory w is v ran → v ≡ plays w is
played [] w v ran had = ran
played (i ∷ is) w v ran had = played is (turn ran.0 w i) v ran.1 had.1 ∙ ap (λ (luck : Luck). plays (turn luck w i) is) had.0

-- ---- an actor that has nothing left to do

pub none_left : (o : Option CallView) → is_some o ≡ false → o ≡ None
none_left None e = refl
none_left (Some call) e = absurd (false≢true (sym e))

none_to_come : (ps : List Planned) → are_some ps ≡ false → ps ≡ []
none_to_come [] e = refl
none_to_come (p ∷ ps) e = absurd (false≢true (sym e))

idle_turned : (luck : Luck) (book : BookedHistory) (ledger : LedgerView) (doing : Option CallView) → doing ≡ None → ledger.to_come ≡ []
    → turned luck book ledger doing ≡ record { book = book; seat = record { ledger = ledger; doing = None } }
idle_turned luck book ledger doing e q =
    ap (λ (d : Option CallView). turned luck book ledger d) e
    ∙ ap (λ (ps : List Planned). goes_on luck.step luck.room book (begins_next luck.start ledger ps).ledger (begins_next luck.start ledger ps).doing) q

pub set_same : {A : Type 0} (xs : List A) (i : ℕ) (x : A) → slice_get xs i ≡ Some x → slice_set xs i x ≡ xs
set_same [] i x e = refl
set_same (y ∷ xs) zero x e = ap (λ z. z ∷ xs) (sym (same_Some y x e))
set_same (y ∷ xs) (suc i) x e = ap (λ zs. y ∷ zs) (set_same xs i x e)

pub idle_turn_by : (luck : Luck) (w : WorldView) (i : ℕ) → is_busy_at w.seats i ≡ false → turn luck w i ≡ w
idle_turn_by luck w i idle = on (slice_get w.seats i) refl (idle)
  where
    on : (o : Option Seat) → slice_get w.seats i ≡ o → is_busy_in (slice_get w.seats i) ≡ false → turn_of luck w i o ≡ w
    on None e idle = refl
    on (Some seat) e idle =
        let over = or_false (is_some seat.doing) (are_some seat.ledger.to_come) (sym (ap is_busy_in e) ∙ idle) in
        let done = none_left seat.doing over.0 in
        ap (λ (t : Turned). record { book = t.book; seats = slice_set w.seats i t.seat; spent = w.spent })
        (idle_turned luck w.book seat.ledger seat.doing done (none_to_come seat.ledger.to_come over.1)
        ∙ ap (λ (d : Option CallView). record { book = w.book; seat = record { ledger = seat.ledger; doing = d } }) (sym done))
        ∙ ap (λ (ss : List Seat). record { book = w.book; seats = ss; spent = w.spent }) (set_same w.seats i seat e)

idle_turn : (w : WorldView) (i : ℕ) → is_busy_at w.seats i ≡ false → turn full w i ≡ w
idle_turn w i idle = idle_turn_by full w i idle

-- ---- one end

ends_alike : (k l : ℕ) (w : WorldView) (i : ℕ) → is_busy_at (plays w (again i k)).seats i ≡ false → is_busy_at (plays w (again i l)).seats i ≡ false
    → plays w (again i k) ≡ plays w (again i l)
ends_alike zero zero w i one two = refl
ends_alike zero (suc l) w i one two =
    let idle = idle_turn w i one in
    ends_alike zero l w i one (subst (λ (u : WorldView). is_busy_at (plays u (again i l)).seats i ≡ false) idle two)
    ∙ ap (λ (u : WorldView). plays u (again i l)) (sym idle)
ends_alike (suc k) zero w i one two =
    let idle = idle_turn w i two in
    ap (λ (u : WorldView). plays u (again i k)) idle
    ∙ ends_alike k zero w i (subst (λ (u : WorldView). is_busy_at (plays u (again i k)).seats i ≡ false) idle one) two
ends_alike (suc k) (suc l) w i one two = ends_alike k l (turn full w i) i one two

-- Each actor of these went to the end to which its turns lead with memory for all.
abbrev pub AllPlayed : (is : List ℕ) (w v : WorldView) → AllGoToEnd w is v → Type 0
AllPlayed [] w v gone = Unit {0}
AllPlayed (i ∷ is) w v gone = (gone.0 ≡ plays w (again i gone.1.turns)) × AllPlayed is gone.0 v gone.2

-- So it was in a whole run.
pub record OutPlayed (w : WorldView) (schedule : List ℕ) (v : WorldView) (out : RunsOut w schedule v) : Type 0 where
  pub scheduled : out.middle ≡ plays w schedule
  pub rest : AllPlayed (numbers_below (length w.seats)) out.middle v out.rest

all_played : (is : List ℕ) (w v : WorldView) (gone : AllGoToEnd w is v) → AllHadMemory w is v gone → AllPlayed is w v gone
all_played [] w v gone had = tt
all_played (i ∷ is) w v gone had = (played (again i gone.1.turns) w gone.0 gone.1.run had.0, all_played is gone.0 v gone.2 had.1)

pub out_played : (w : WorldView) (schedule : List ℕ) (v : WorldView) (out : RunsOut w schedule v) → RanWithMemory w schedule v out → OutPlayed w schedule v out
out_played w schedule v out had = record {
  scheduled = played schedule w out.middle out.scheduled had.scheduled;
  rest = all_played (numbers_below (length w.seats)) out.middle v out.rest had.rest;
}

goes_alike : (i : ℕ) (w u v : WorldView) (one : GoesToEnd w i u) (two : GoesToEnd w i v) → u ≡ plays w (again i one.turns) → v ≡ plays w (again i two.turns) → u ≡ v
goes_alike i w u v one two here there =
    here
    ∙ ends_alike one.turns two.turns w i (subst (λ (x : WorldView). is_busy_at x.seats i ≡ false) here one.over)
    (subst (λ (x : WorldView). is_busy_at x.seats i ≡ false) there two.over)
    ∙ sym there

all_alike : (is : List ℕ) (w w' u v : WorldView) → w ≡ w' → (one : AllGoToEnd w is u) (two : AllGoToEnd w' is v) → AllPlayed is w u one → AllPlayed is w' v two → u ≡ v
all_alike [] w w' u v same one two first second = one ∙ same ∙ sym two
all_alike (i ∷ is) w w' u v same one two first second =
    all_alike is one.0 two.0 u v (from w' same two.0 two.1 second.0) one.2 two.2 first.1 second.1
  where
    from : (x : WorldView) → w ≡ x → (y : WorldView) (goes : GoesToEnd x i y) → y ≡ plays x (again i goes.turns) → one.0 ≡ y
    from x e y goes is_so =
        subst (λ (z : WorldView). (g : GoesToEnd z i y) → y ≡ plays z (again i g.turns) → one.0 ≡ y) e
        (λ g is_played. goes_alike i w one.0 y one.1 g first.0 is_played) goes is_so

-- runs on one schedule, played so, come to one end
pub one_end : (w : WorldView) (schedule : List ℕ) (u v : WorldView) (one : RunsOut w schedule u) (two : RunsOut w schedule v)
    → OutPlayed w schedule u one → OutPlayed w schedule v two → u ≡ v
one_end w schedule u v one two first second =
    all_alike (numbers_below (length w.seats)) one.middle two.middle u v (first.scheduled ∙ sym second.scheduled) one.rest two.rest first.rest second.rest

-- and reports on one end are one
pub reports_of_one : (w : WorldView) (schedule : List ℕ)
    (tree : State) (events : List Event) (replies : List (List Outcome)) (kept : List StandingObject)
    (tree' : State) (events' : List Event) (replies' : List (List Outcome)) (kept' : List StandingObject)
    (one : RunsTo w schedule tree events replies kept) (two : RunsTo w schedule tree' events' replies' kept')
    → OutPlayed w schedule one.end one.runs → OutPlayed w schedule two.end two.runs → AreOne tree events replies kept tree' events' replies' kept'
reports_of_one w schedule tree events replies kept tree' events' replies' kept' one two first second =
    let end = one_end w schedule one.end two.end one.runs two.runs first second in
    record {
      same_tree = one.reports.is_tree ∙ ap (λ (v : WorldView). tree_now v.book) end ∙ sym two.reports.is_tree;
      same_events = one.reports.are_events ∙ ap (λ (v : WorldView). v.book.events) end ∙ sym two.reports.are_events;
      same_replies = one.reports.are_replies ∙ ap (λ (v : WorldView). replies_in (ledgers_in v.seats)) end ∙ sym two.reports.are_replies;
      same_kept = one.reports.is_kept ∙ ap (λ (v : WorldView). kept_in (ledgers_in v.seats)) end ∙ sym two.reports.is_kept;
    }

pub one_report : OneReport
one_report w schedule tree events replies kept tree' events' replies' kept' one two first second =
    reports_of_one w schedule tree events replies kept tree' events' replies' kept' one two
    (out_played w schedule one.end one.runs first) (out_played w schedule two.end two.runs second)
