-- Giving up all calls under way is a run to the end: turns without memory, the actors in their order.
use Rattle.std.specs.Prelude.{◌≡◌, ◌+◌, ℕ, zero, suc, List, [], ◌∷◌, ◌++◌, Bool, true, false, if◌then◌else◌, length, Option, Some, None, slice_get, slice_set, refl}
use Rattle.std.proofs.Common.{sym, ap, subst, ◌∙◌, arith, add-zero, append-nil, append_assoc}
use Rattle.std.proofs.lemmas.List.{length_push}
use Rattle.std.proofs.lemmas.Option.{none-some, same_Some}
use Rattle.path_text.specs.declared.errno.Errno.TheVariants.{NoMemory}
use Rattle.tree_model.specs.declared.answer.Answer.TheVariants.{Refused}
use Rattle.tree_model.specs.StepWith.{StepWith}
use Rattle.root_ops.specs.declared.below.Below.{Below}
use Rattle.root_ops.specs.Order.{Reply, opened, Doing, CallTurn, more, ends, take, due}
use Rattle.root_ops.specs.View.{CallView}
use Rattle.race_core.specs.declared.report.Outcome.{Outcome}
use Rattle.race_core.specs.declared.seat.Seat.{Seat}
use Rattle.race_core.specs.Book.{BookedHistory, is_close, refusal}
use Rattle.race_core.specs.GivenUp.{GoesWithout, GivesCallUp, AllGiveUp}
use Rattle.race_core.specs.Ledgers.{LedgerView}
use Rattle.race_core.specs.TurnView.{is_busy, are_some}
use Rattle.race_core.specs.Turns.{Luck, Stepped, unless_refused, stepped_by, outcome_of, comes}
use Rattle.race_core.specs.Worlds.{WorldView, turn_of, Runs, again, GoesToEnd, AllGoToEnd, numbers_below, is_busy_in, AllOver, ledgers_in, replies_in}
use Rattle.race_core.proofs.WorldSoFar.{placed_there, got_after}
use Rattle.race_core.proofs.CutShort.{placed_twice}
use Rattle.race_core.proofs.OneEnd.{set_same}
use Rattle.further_world_laws.specs.GivenUpWorlds.{tells_opened, LastOutcome}
use Rattle.further_world_laws.proofs.OpensNothing.{OpensNone, ClosesToNone, EndsInNone, refused_opens_none, close_opens_none, CallGoesToNone, AllGoToNone}
use Rattle.further_world_laws.proofs.Shorter.{shut}

-- ---- places

set_after : {A : Type 0} (xs : List A) (y : A) (ys : List A) (z : A) → slice_set (xs ++ y ∷ ys) (length xs) z ≡ xs ++ z ∷ ys
set_after [] y ys z = refl
set_after (x ∷ xs) y ys z = ap (λ zs. x ∷ zs) (set_after xs y ys z)

-- ---- one call

-- without memory the step is a Close, or it is refused
without_memory : (a : ℕ) (below : Below) (book : BookedHistory) (room : Bool) (doing : Doing) → ClosesToNone doing
    → EndsInNone (take below room doing (stepped_by false book a (due below doing)).answer)
without_memory a below book room doing none = on (is_close (due below doing)) refl
  where
    step : StepWith ℕ
    step = due below doing

    on : (b : Bool) → is_close (due below doing) ≡ b → EndsInNone (take below room doing (stepped_by false book a (due below doing)).answer)
    on true e = close_opens_none below room doing (stepped_by false book a (due below doing)).answer e none
    on false e =
        subst (λ (b : Bool). EndsInNone (take below room doing
        (if b then unless_refused book a (due below doing) (refusal book a (due below doing)) else record { answer = Refused NoMemory; book = book }).answer))
        (sym e) (refused_opens_none below room doing NoMemory none)

tells_none : (reply : Reply) → OpensNone reply → tells_opened (outcome_of reply) ≡ false
tells_none (opened handle names) none = absurd none
tells_none reply none = refl

-- what an actor's outcomes come to
pub record IsTold (old new : Seat) : Type 0 where
  pub last : List Outcome
  pub told : new.ledger.outcomes ≡ old.ledger.outcomes ++ last
  pub is_last : LastOutcome old.doing last

-- The actor of that number goes to its end, and leaves this seat.
record EndsOver (w : WorldView) (i : ℕ) (after : BookedHistory) : Type 0 where
  pub end : WorldView
  pub goes : GoesToEnd w i end
  pub book : end.book ≡ after
  pub spent : end.spent ≡ w.spent
  pub new : Seat
  pub seats : end.seats ≡ slice_set w.seats i new
  pub idle : is_busy new ≡ false

-- so it goes from a seat of which this is left
record GoesOver (w : WorldView) (i : ℕ) (ledger : LedgerView) (doing : Option CallView) (after : BookedHistory) : Type 0 where
  pub over : EndsOver w i after
  pub told : IsTold (record { ledger = ledger; doing = doing }) over.new

-- and from a turn, with an outcome that says of nothing that it was opened
record ComesOver (w : WorldView) (i : ℕ) (ledger : LedgerView) (after : BookedHistory) : Type 0 where
  pub over : EndsOver w i after
  pub outcome : Outcome
  pub told : over.new.ledger.outcomes ≡ ledger.outcomes ++ outcome ∷ []
  pub none : tells_opened outcome ≡ false

-- it is at its end
abbrev is_over : (w : WorldView) (i : ℕ) (new : Seat) (after : BookedHistory) → slice_get w.seats i ≡ Some new
    → is_busy new ≡ false → after ≡ w.book → EndsOver w i after
is_over w i new after at idle same = record {
  end = w;
  goes = record { turns = 0; run = refl; over = ap is_busy_in at ∙ idle };
  book = sym same;
  spent = refl;
  new = new;
  seats = sym (set_same w.seats i new at);
  idle = idle;
}

comes_over : (rooms : List Bool) (w : WorldView) (i : ℕ) (ledger : LedgerView) (below : Below) (t : CallTurn) (after : BookedHistory)
    → slice_get w.seats i ≡ Some (comes ledger below t) → ledger.to_come ≡ [] → EndsInNone t → GoesWithout ledger.root.owner.actor below w.book t rooms after
    → ComesOver w i ledger after
comes_over [] w i ledger below (ends reply) after at none_left none goes = record {
  over = is_over w i (comes ledger below (ends reply)) after at (ap are_some none_left) goes;
  outcome = outcome_of reply;
  told = refl;
  none = tells_none reply none;
}
comes_over (room ∷ rooms) w i ledger below (more doing) after at none_left none goes =
    let luck : Luck = record { start = true; step = false; room = room } in
    let step : Stepped = stepped_by false w.book ledger.root.owner.actor (due below doing) in
    let seat : Seat = comes ledger below (more doing) in
    let next : CallTurn = take below room doing step.answer in
    let x : WorldView = turn_of luck w i (Some seat) in
    let rest = comes_over rooms x i ledger below next after (placed_there w.seats i seat (comes ledger below next) at) none_left
    (without_memory ledger.root.owner.actor below w.book room doing none) goes in
    let over = rest.over in
    record {
      over = record {
        end = over.end;
        goes = record {
          turns = suc over.goes.turns;
          run = (luck, subst (λ (u : WorldView). Runs u (again i over.goes.turns) over.end) (ap (λ (o : Option Seat). turn_of luck w i o) (sym at)) over.goes.run);
          over = over.goes.over;
        };
        book = over.book;
        spent = over.spent;
        new = over.new;
        seats = over.seats ∙ placed_twice w.seats i (comes ledger below next) over.new;
        idle = over.idle;
      };
      outcome = rest.outcome;
      told = rest.told;
      none = rest.none;
    }
comes_over (room ∷ rooms) w i ledger below (ends reply) after at none_left none goes = absurd goes
comes_over [] w i ledger below (more doing) after at none_left none goes = absurd goes

goes_over : (w : WorldView) (i : ℕ) (ledger : LedgerView) (doing : Option CallView) (after : BookedHistory) → slice_get w.seats i ≡ Some (record { ledger = ledger; doing = doing })
    → ledger.to_come ≡ [] → CallGoesToNone doing → GivesCallUp ledger.root.owner.actor w.book doing after → GoesOver w i ledger doing after
goes_over w i ledger None after at none_left none gives = record {
  over = is_over w i (record { ledger = ledger; doing = None }) after at (ap are_some none_left) gives;
  told = record { last = []; told = sym (append-nil ledger.outcomes); is_last = refl };
}
goes_over w i ledger (Some view) after at none_left none gives =
    let came = comes_over gives.rooms w i ledger view.below (more view.doing) after at none_left none gives.goes in
    record {
      over = came.over;
      told = record { last = came.outcome ∷ []; told = came.told; is_last = (came.outcome, (refl, came.none)) };
    }

-- ---- all calls

abbrev pub numbers_from : ℕ → ℕ → List ℕ
numbers_from k zero = []
numbers_from k (suc n) = k ∷ numbers_from (suc k) n

numbers_more : (n k : ℕ) → numbers_from k (suc n) ≡ numbers_from k n ++ (k + n) ∷ []
numbers_more zero k = ap (λ (m : ℕ). m ∷ []) (sym (add-zero k))
numbers_more (suc n) k =
    ap (λ (ns : List ℕ). k ∷ ns) (numbers_more n (suc k)) ∙ ap (λ (m : ℕ). k ∷ (numbers_from (suc k) n ++ m ∷ [])) (one_on k n)
  where
    one_on : (k n : ℕ) → suc k + n ≡ k + suc n
    one_on k n = omega arith

pub numbers_are : (n : ℕ) → numbers_below n ≡ numbers_from 0 n
numbers_are zero = refl
numbers_are (suc n) = ap (λ (ns : List ℕ). ns ++ n ∷ []) (numbers_are n) ∙ (ap (λ (m : ℕ). numbers_from 0 n ++ m ∷ []) (from_zero n) ∙ sym (numbers_more n 0))
  where
    from_zero : (n : ℕ) → n ≡ 0 + n
    from_zero n = omega arith

abbrev pub AreTold : List Seat → List Seat → Type 0
AreTold [] [] = Unit {0}
AreTold [] (new ∷ news) = ⊥
AreTold (old ∷ olds) [] = ⊥
AreTold (old ∷ olds) (new ∷ news) = IsTold old new × AreTold olds news

-- nothing is to come
abbrev pub NoneLeft : List Seat → Type 0
NoneLeft [] = Unit {0}
NoneLeft (seat ∷ seats) = (seat.ledger.to_come ≡ []) × NoneLeft seats

-- the actors from that number on go to their ends, one after another
pub record AllGoOver (w : WorldView) (before seats : List Seat) (after : BookedHistory) : Type 0 where
  pub end : WorldView
  pub gone : AllGoToEnd w (numbers_from (length before) (length seats)) end
  pub book : end.book ≡ after
  pub spent : end.spent ≡ w.spent
  pub news : List Seat
  pub seated : end.seats ≡ before ++ news
  pub over : AllOver news
  pub told : AreTold seats news

pub all_go_over : (seats : List Seat) (w : WorldView) (before : List Seat) (after : BookedHistory) → w.seats ≡ before ++ seats → NoneLeft seats → AllGoToNone seats
    → AllGiveUp w.book seats after → AllGoOver w before seats after
all_go_over [] w before after e left none gives = record {
  end = w;
  gone = refl;
  book = sym gives;
  spent = refl;
  news = [];
  seated = e;
  over = tt;
  told = tt;
}
all_go_over (seat ∷ seats) w before after e left none gives =
    let at : slice_get w.seats (length before) ≡ Some seat = ap (λ (ss : List Seat). slice_get ss (length before)) e ∙ got_after before seat seats in
    let gone = goes_over w (length before) seat.ledger seat.doing gives.0 at left.0 none.0 gives.1 in
    let one = gone.over in
    let seated : one.end.seats ≡ (before ++ one.new ∷ []) ++ seats =
    one.seats ∙ (ap (λ (ss : List Seat). slice_set ss (length before) one.new) e
    ∙ (set_after before seat seats one.new ∙ sym (append_assoc before (one.new ∷ []) seats))) in
    let rest = all_go_over seats one.end (before ++ one.new ∷ []) after seated left.1 none.1
    (subst (λ (b : BookedHistory). AllGiveUp b seats after) (sym one.book) gives.2) in
    let counted : length (before ++ one.new ∷ []) ≡ suc (length before) = omega (arith, length_push before one.new) in
    record {
      end = rest.end;
      gone = (one.end, one.goes, subst (λ (n : ℕ). AllGoToEnd one.end (numbers_from n (length seats)) rest.end) counted rest.gone);
      book = rest.book;
      spent = rest.spent ∙ one.spent;
      news = one.new ∷ rest.news;
      seated = rest.seated ∙ append_assoc before (one.new ∷ []) rest.news;
      over = (one.idle, rest.over);
      told = (gone.told, rest.told);
    }

-- ---- of seats with nothing to come

pub shut_left : (seats : List Seat) → NoneLeft (shut seats)
shut_left [] = tt
shut_left (seat ∷ seats) = (refl, shut_left seats)

pub shut_none : (seats : List Seat) → AllGoToNone seats → AllGoToNone (shut seats)
shut_none [] none = tt
shut_none (seat ∷ seats) none = (none.0, shut_none seats none.1)

pub shut_gives : (seats : List Seat) (book after : BookedHistory) → AllGiveUp book seats after → AllGiveUp book (shut seats) after
shut_gives [] book after gives = gives
shut_gives (seat ∷ seats) book after gives = (gives.0, gives.1, shut_gives seats gives.0 after gives.2)

-- what the report tells of that actor
pub record RepliesTold (seat : Seat) (replies : List (List Outcome)) (i : ℕ) : Type 0 where
  pub outcomes : List Outcome
  pub there : slice_get replies i ≡ Some outcomes
  pub last : List Outcome
  pub told : outcomes ≡ seat.ledger.outcomes ++ last
  pub is_last : LastOutcome seat.doing last

pub replies_told : (seats news : List Seat) (i : ℕ) (seat : Seat) → AreTold (shut seats) news → slice_get seats i ≡ Some seat
    → RepliesTold seat (replies_in (ledgers_in news)) i
replies_told [] news i seat told e = absurd (none-some seat e)
replies_told (s ∷ seats) [] i seat told e = absurd told
replies_told (s ∷ seats) (new ∷ news) zero seat told e =
    subst (λ (t : Seat). RepliesTold t (replies_in (ledgers_in (new ∷ news))) zero) (same_Some s seat e)
    (record { outcomes = new.ledger.outcomes; there = refl; last = told.0.last; told = told.0.told; is_last = told.0.is_last })
replies_told (s ∷ seats) (new ∷ news) (suc i) seat told e =
    let later = replies_told seats news i seat told.1 e in
    record { outcomes = later.outcomes; there = later.there; last = later.last; told = later.told; is_last = later.is_last }
