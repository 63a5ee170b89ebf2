-- Turns that were made one by one, and a run after them, are one run.
use Rattle.std.proofs.Common.{◌≡◌, ℕ, ◌<◌, List, [], ◌∷◌, ◌++◌, Bool, length, Option, Some, None, Ok, slice_get, lt-ltb, refl, sym, ap, subst, ◌∙◌}
use Rattle.std.specs.Prelude.{if◌then◌else◌}
use Rattle.race_core.specs.declared.seat.Seat.{Seat}
use Rattle.race_core.specs.JoinedRuns.{TakesTurns, TurnsGoOn, TurnsJoinRuns}
use Rattle.race_core.specs.Turns.{Luck, turned}
use Rattle.race_core.specs.Worlds.{WorldView, turn_of, turn, Runs, TakesTurn, Turns, first_beyond, AllGoToEnd, numbers_below}
use Rattle.path_text.proofs.Lists.{length-slice_set}

pub turns_go_on : TurnsGoOn
turns_go_on w u v [] i before one = (v, subst (λ (x : WorldView). Turns x i v (Ok tt)) before one, refl)
turns_go_on w u v (j ∷ made) i before one = (before.0, before.1, turns_go_on before.0 u v made i before.2 one)

-- ---- what a turn leaves

pub spent_of : (luck : Luck) (w : WorldView) (i : ℕ) (o : Option Seat) → (turn_of luck w i o).spent ≡ w.spent
spent_of luck w i None = refl
spent_of luck w i (Some seat) = refl

pub as_many : (luck : Luck) (w : WorldView) (i : ℕ) (o : Option Seat) → length (turn_of luck w i o).seats ≡ length w.seats
as_many luck w i None = refl
as_many luck w i (Some seat) = length-slice_set w.seats i (turned luck w.book seat.ledger seat.doing).seat

-- ---- runs joined

pub runs_both : (w : WorldView) (is : List ℕ) (u : WorldView) (js : List ℕ) (v : WorldView) → Runs w is u → Runs u js v → Runs w (is ++ js) v
runs_both w [] u js v run more = subst (λ (x : WorldView). Runs x js v) run more
runs_both w (i ∷ is) u js v run more = (run.0, runs_both (turn run.0 w i) is u js v run.1 more)

-- what such turns are
record AreTurns (w : WorldView) (made : List ℕ) (v : WorldView) : Type 0 where
  pub runs : Runs w made v
  pub seats : length v.seats ≡ length w.seats
  pub spent : v.spent ≡ w.spent
  pub within : (others : List ℕ) → first_beyond (length w.seats) (made ++ others) ≡ first_beyond (length w.seats) others

one_within : (actors i : ℕ) (is : List ℕ) → i < actors → first_beyond actors (i ∷ is) ≡ first_beyond actors is
one_within actors i is h = ap (λ (b : Bool). if b then first_beyond actors is else Some i) (lt-ltb i actors h)

are_turns : (w : WorldView) (made : List ℕ) (v : WorldView) → TakesTurns w made v → AreTurns w made v
are_turns w [] v taken = record {
  runs = taken;
  seats = ap (λ (x : WorldView). length x.seats) taken;
  spent = ap (λ (x : WorldView). x.spent) taken;
  within = λ others. refl;
}
are_turns w (i ∷ made) v taken =
    let u : WorldView = taken.0 in
    let one : TakesTurn w i u = taken.1.1 in
    let rest = are_turns u made v taken.2 in
    let seats : length u.seats ≡ length w.seats = ap (λ (x : WorldView). length x.seats) one.is ∙ as_many one.luck w i (slice_get w.seats i) in
    record {
      runs = (one.luck, subst (λ (x : WorldView). Runs x made v) one.is rest.runs);
      seats = rest.seats ∙ seats;
      spent = rest.spent ∙ (ap (λ (x : WorldView). x.spent) one.is ∙ spent_of one.luck w i (slice_get w.seats i));
      within = λ others.
          one_within (length w.seats) i (made ++ others) taken.1.0
          ∙ subst (λ (n : ℕ). first_beyond n (made ++ others) ≡ first_beyond n others) seats (rest.within others);
    }

pub turns_join_runs : TurnsJoinRuns
turns_join_runs w v made schedule tree events replies kept taken ran =
    let are = are_turns w made v taken in
    record {
      had_memory = sym are.spent ∙ ran.had_memory;
      within = are.within schedule ∙ subst (λ (n : ℕ). first_beyond n schedule ≡ None) are.seats ran.within;
      end = ran.end;
      runs = record {
        middle = ran.runs.middle;
        scheduled = runs_both w made v schedule ran.runs.middle are.runs ran.runs.scheduled;
        rest = subst (λ (n : ℕ). AllGoToEnd ran.runs.middle (numbers_below n) ran.end) are.seats ran.runs.rest;
      };
      over = ran.over;
      reports = ran.reports;
    }
