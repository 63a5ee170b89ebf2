-- A world in which the actors plan fewer calls takes the same turns, where none of these calls was begun by them.
use Rattle.std.specs.Prelude.{◌≡◌, ◌<◌, ◌≤◌, ◌⊎◌, ℕ, zero, suc, List, [], ◌∷◌, ◌++◌, Bool, false, length, Option, Some, None, Result, Ok, Err, slice_get, slice_set, refl}
use Rattle.std.proofs.Common.{get_or, sym, ap, subst, ◌∙◌, inl, inr, arith}
use Rattle.std.proofs.lemmas.Option.{none-some, same_Some, slice_get_within, slice_get_cases}
use Rattle.path_text.specs.declared.errno.Errno.{Errno}
use Rattle.tree_model.specs.State.{State}
use Rattle.tree_model.specs.Steps.{grants}
use Rattle.root_ops.specs.declared.below.Below.{Below}
use Rattle.root_ops.specs.declared.op.Request.{Request}
use Rattle.root_ops.specs.Order.{CallTurn, more, ends, starts, take, due}
use Rattle.root_ops.specs.TurnView.{below_of}
use Rattle.root_ops.specs.View.{CallView}
use Rattle.race_core.specs.declared.plan.ActorPlan.{ActorPlan}
use Rattle.race_core.specs.declared.plan.Planned.{Planned}
use Rattle.race_core.specs.declared.seat.Seat.{Seat}
use Rattle.race_core.specs.Book.{BookedHistory}
use Rattle.race_core.specs.JoinedRuns.{TakesTurns}
use Rattle.race_core.specs.Ledgers.{LedgerView}
use Rattle.race_core.specs.Opening.{Granted, Grants, before, onward_from, granted, root_in, seats_of}
use Rattle.race_core.specs.Turns.{Luck, Stepped, stepped_by, Turned, comes, begins, begins_next, goes_on, turned, request_of, left_by, opened_ledger}
use Rattle.race_core.specs.Worlds.{WorldView, turn_of, Turns}

-- ---- a seat with other calls to come

abbrev pub with_calls : List Planned → LedgerView → LedgerView
with_calls calls ledger = record ledger { to_come = calls }

abbrev pub seat_with : List Planned → Seat → Seat
seat_with calls seat = record { ledger = with_calls calls seat.ledger; doing = seat.doing }

abbrev turned_with : List Planned → Turned → Turned
turned_with calls t = record { book = t.book; seat = seat_with calls t.seat }

comes_with : (calls : List Planned) (ledger : LedgerView) (below : Below) (t : CallTurn) → comes (with_calls calls ledger) below t ≡ seat_with calls (comes ledger below t)
comes_with calls ledger below (more doing) = refl
comes_with calls ledger below (ends reply) = refl

comes_calls : (ledger : LedgerView) (below : Below) (t : CallTurn) → (comes ledger below t).ledger.to_come ≡ ledger.to_come
comes_calls ledger below (more doing) = refl
comes_calls ledger below (ends reply) = refl

begins_with : (calls : List Planned) (room : Bool) (ledger : LedgerView) (request : Option Request)
    → begins room (with_calls calls ledger) request ≡ seat_with calls (begins room ledger request)
begins_with calls room ledger None = refl
begins_with calls room ledger (Some request) =
    let below : Below = below_of ledger.root request.flags in comes_with calls ledger below (starts below room request.op)

begins_calls : (room : Bool) (ledger : LedgerView) (request : Option Request) → (begins room ledger request).ledger.to_come ≡ ledger.to_come
begins_calls room ledger None = refl
begins_calls room ledger (Some request) =
    let below : Below = below_of ledger.root request.flags in comes_calls ledger below (starts below room request.op)

goes_with : (calls : List Planned) (luck room : Bool) (book : BookedHistory) (ledger : LedgerView) (doing : Option CallView)
    → goes_on luck room book (with_calls calls ledger) doing ≡ turned_with calls (goes_on luck room book ledger doing)
goes_with calls luck room book ledger None = refl
goes_with calls luck room book ledger (Some view) =
    let step : Stepped = stepped_by luck book ledger.root.owner.actor (due view.below view.doing) in
    let same = comes_with calls ledger view.below (take view.below room view.doing step.answer) in
    λ i. record { book = step.book; seat = same i }

goes_calls : (luck room : Bool) (book : BookedHistory) (ledger : LedgerView) (doing : Option CallView)
    → (goes_on luck room book ledger doing).seat.ledger.to_come ≡ ledger.to_come
goes_calls luck room book ledger None = refl
goes_calls luck room book ledger (Some view) =
    comes_calls ledger view.below (take view.below room view.doing (stepped_by luck book ledger.root.owner.actor (due view.below view.doing)).answer)

-- ---- one turn

-- the turn where no call is under way and these are to come
abbrev next_turned : Luck → BookedHistory → LedgerView → List Planned → Turned
next_turned luck book ledger calls =
    goes_on luck.step luck.room book (begins_next luck.start ledger calls).ledger (begins_next luck.start ledger calls).doing

-- The turn leaves these calls to come and the rest; so it leaves these alone where the rest wasn't to come.
record ShorterTurn (luck : Luck) (book : BookedHistory) (ledger : LedgerView) (doing : Option CallView) (calls rest : List Planned) : Type 0 where
  pub first : List Planned
  pub whole : ledger.to_come ≡ first ++ rest
  pub is : turned luck book (with_calls first ledger) doing ≡ turned_with calls (turned luck book ledger doing)

none_begun : (luck : Luck) (book : BookedHistory) (ledger : LedgerView) (calls rest : List Planned) → calls ++ rest ≡ []
    → next_turned luck book (with_calls calls ledger) calls ≡ turned_with calls (next_turned luck book ledger [])
none_begun luck book ledger [] rest e = refl
none_begun luck book ledger (next ∷ calls) rest e = let some : next ∷ (calls ++ rest) ≡ [] = e in cc (some)

next_shorter : (luck : Luck) (book : BookedHistory) (ledger : LedgerView) (to_come : List Planned) → ledger.to_come ≡ to_come
    → (calls rest : List Planned) → (next_turned luck book ledger to_come).seat.ledger.to_come ≡ calls ++ rest → ShorterTurn luck book ledger None calls rest
next_shorter luck book ledger [] q calls rest e = record {
  first = calls;
  whole = e;
  is = none_begun luck book ledger calls rest (sym e ∙ q) ∙ ap (λ (ps : List Planned). turned_with calls (next_turned luck book ledger ps)) (sym q);
}
next_shorter luck book ledger (next ∷ others) q calls rest e =
    let begun_ledger : LedgerView = record ledger { to_come = others; standings = left_by next ledger.standings } in
    let request : Option Request = request_of ledger.root ledger.standings next in
    let seat : Seat = begins luck.start begun_ledger request in
    let left : others ≡ calls ++ rest =
    sym (begins_calls luck.start begun_ledger request) ∙ (sym (goes_calls luck.step luck.room book seat.ledger seat.doing) ∙ e) in
    record {
      first = next ∷ calls;
      whole = q ∙ ap (λ (ps : List Planned). next ∷ ps) left;
      is = ap (λ (s : Seat). goes_on luck.step luck.room book s.ledger s.doing) (begins_with calls luck.start begun_ledger request)
          ∙ (goes_with calls luck.step luck.room book seat.ledger seat.doing
          ∙ ap (λ (ps : List Planned). turned_with calls (next_turned luck book ledger ps)) (sym q));
    }

shorter_turn : (luck : Luck) (book : BookedHistory) (ledger : LedgerView) (doing : Option CallView) (calls rest : List Planned)
    → (turned luck book ledger doing).seat.ledger.to_come ≡ calls ++ rest → ShorterTurn luck book ledger doing calls rest
shorter_turn luck book ledger None calls rest e = next_shorter luck book ledger ledger.to_come refl calls rest e
shorter_turn luck book ledger (Some view) calls rest e = record {
  first = calls;
  whole = sym (goes_calls luck.step luck.room book ledger (Some view)) ∙ e;
  is = goes_with calls luck.step luck.room book ledger (Some view);
}

-- ---- all seats

-- the seat, but that the rest of its calls isn't to come
pub record IsCutSeat (whole : Seat) (rest : List Planned) (cut : Seat) : Type 0 where
  pub calls : whole.ledger.to_come ≡ cut.ledger.to_come ++ rest
  pub same : cut ≡ seat_with cut.ledger.to_come whole

abbrev pub AreCut : List Seat → List (List Planned) → List Seat → Type 0
AreCut [] [] [] = Unit {0}
AreCut [] [] (cut ∷ cuts) = ⊥
AreCut [] (rest ∷ rests) cuts = ⊥
AreCut (whole ∷ wholes) [] cuts = ⊥
AreCut (whole ∷ wholes) (rest ∷ rests) [] = ⊥
AreCut (whole ∷ wholes) (rest ∷ rests) (cut ∷ cuts) = IsCutSeat whole rest cut × AreCut wholes rests cuts

-- before the turn of that seat the seats were cut so
record CutBefore (luck : Luck) (book : BookedHistory) (i : ℕ) (wholes : List Seat) (seat : Seat) (rests : List (List Planned)) (cuts : List Seat) : Type 0 where
  pub earlier : List Seat
  pub are : AreCut wholes rests earlier
  pub short : Seat
  pub there : slice_get earlier i ≡ Some short
  pub book_is : (turned luck book short.ledger short.doing).book ≡ (turned luck book seat.ledger seat.doing).book
  pub after : slice_set earlier i (turned luck book short.ledger short.doing).seat ≡ cuts

cut_before : (luck : Luck) (book : BookedHistory) (i : ℕ) (wholes : List Seat) (seat : Seat) → slice_get wholes i ≡ Some seat → (rests : List (List Planned)) (cuts : List Seat)
    → AreCut (slice_set wholes i (turned luck book seat.ledger seat.doing).seat) rests cuts → CutBefore luck book i wholes seat rests cuts
cut_before luck book i [] seat at rests cuts are = absurd (none-some seat at)
cut_before luck book zero (s ∷ ss) seat at [] cuts are = absurd are
cut_before luck book zero (s ∷ ss) seat at (rest ∷ rests) [] are = absurd are
cut_before luck book zero (s ∷ ss) seat at (rest ∷ rests) (cut ∷ cuts) are =
    let shorter = shorter_turn luck book seat.ledger seat.doing cut.ledger.to_come rest are.0.calls in
    let mine : s ≡ seat = same_Some s seat at in
    let now : Seat = seat_with shorter.first seat in
    record {
      earlier = now ∷ cuts;
      are = (
        record {
          calls = ap (λ (t : Seat). t.ledger.to_come) mine ∙ shorter.whole;
          same = ap (λ (t : Seat). seat_with shorter.first t) (sym mine);
        },
        are.1,
      );
      short = now;
      there = refl;
      book_is = ap (λ (t : Turned). t.book) shorter.is;
      after = ap (λ (t : Seat). t ∷ cuts) (ap (λ (t : Turned). t.seat) shorter.is ∙ sym are.0.same);
    }
cut_before luck book (suc i) (s ∷ ss) seat at [] cuts are = absurd are
cut_before luck book (suc i) (s ∷ ss) seat at (rest ∷ rests) [] are = absurd are
cut_before luck book (suc i) (s ∷ ss) seat at (rest ∷ rests) (cut ∷ cuts) are =
    let others = cut_before luck book i ss seat at rests cuts are.1 in
    record {
      earlier = cut ∷ others.earlier;
      are = (are.0, others.are);
      short = others.short;
      there = others.there;
      book_is = others.book_is;
      after = ap (λ (ts : List Seat). cut ∷ ts) others.after;
    }

-- ---- worlds

pub record IsCutWorld (w : WorldView) (rests : List (List Planned)) (cut : WorldView) : Type 0 where
  pub book : cut.book ≡ w.book
  pub spent : cut.spent ≡ w.spent
  pub seats : AreCut w.seats rests cut.seats

pub same_world : (w v : WorldView) → w.book ≡ v.book → w.seats ≡ v.seats → w.spent ≡ v.spent → w ≡ v
same_world w v books seats spents = λ i. record { book = books i; seats = seats i; spent = spents i }

one_cut_at : (luck : Luck) (w : WorldView) (i : ℕ) (seat : Seat) (rests : List (List Planned)) (v : WorldView) → w.spent ≡ false → slice_get w.seats i ≡ Some seat
    → IsCutWorld (turn_of luck w i (Some seat)) rests v → (x : WorldView) × (IsCutWorld w rests x × Turns x i v (Ok tt))
one_cut_at luck w i seat rests v memory at is =
    let cut = cut_before luck w.book i w.seats seat at rests v.seats is.seats in
    let x : WorldView = record { book = w.book; seats = cut.earlier; spent = w.spent } in
    let same : turn_of luck x i (Some cut.short) ≡ v = same_world (turn_of luck x i (Some cut.short)) v (cut.book_is ∙ sym is.book) cut.after (sym is.spent) in (
      x,
      (
        record { book = refl; spent = refl; seats = cut.are },
        (
          slice_get_within cut.earlier i cut.short cut.there,
          record { had_memory = memory; luck = luck; is = sym same ∙ ap (λ (o : Option Seat). turn_of luck x i o) (sym cut.there) },
        ),
      ),
    )

one_cut : (w u : WorldView) (i : ℕ) (rests : List (List Planned)) (v : WorldView) → Turns w i u (Ok tt) → IsCutWorld u rests v
    → (x : WorldView) × (IsCutWorld w rests x × Turns x i v (Ok tt))
one_cut w u i rests v taken is = on (slice_get_cases w.seats i).1
  where
    on : ((x : Seat) × (i < length w.seats) × (slice_get w.seats i ≡ Some x) × (get_or w.seats i x ≡ x)) ⊎ ((length w.seats ≤ i) × (slice_get w.seats i ≡ None))
        → (x : WorldView) × (IsCutWorld w rests x × Turns x i v (Ok tt))
    on (inr past) = absurd (omega (arith, past.0, taken.0))
    on (inl some) =
        let luck : Luck = taken.1.luck in
        let turned_so : u ≡ turn_of luck w i (Some some.0) = taken.1.is ∙ ap (λ (o : Option Seat). turn_of luck w i o) some.2 in
        one_cut_at luck w i some.0 rests v taken.1.had_memory some.2 (subst (λ (y : WorldView). IsCutWorld y rests v) turned_so is)

-- turns that lead to such a world are those of such a world
pub turns_cut : (w : WorldView) (made : List ℕ) (v : WorldView) (rests : List (List Planned)) (cut : WorldView) → TakesTurns w made v → IsCutWorld v rests cut
    → (x : WorldView) × (IsCutWorld w rests x × TakesTurns x made cut)
turns_cut w [] v rests cut taken is = (cut, (subst (λ (u : WorldView). IsCutWorld u rests cut) taken is, refl))
turns_cut w (i ∷ made) v rests cut taken is =
    let later = turns_cut taken.0 made v rests cut taken.2 is in
    let one = one_cut w taken.0 i rests later.0 taken.1 later.1.0 in
    (one.0, (one.1.0, (later.0, one.1.1, later.1.1)))

-- ---- the opening

-- the actors' plans without the rest of their calls
pub record CutPlans (s : State) (k : ℕ) (plans : List ActorPlan) (roots : Granted) (rests : List (List Planned)) (cuts : List Seat) : Type 0 where
  pub shorter : List ActorPlan
  pub ledgers : List LedgerView
  pub are_granted : granted s k shorter ≡ Ok (record { tree = roots.tree; ledgers = ledgers })
  pub seated : cuts ≡ seats_of ledgers
  pub many : length shorter ≡ length plans
  pub each : (i : ℕ) (plan : ActorPlan) (rest : List Planned) → slice_get plans i ≡ Some plan → slice_get rests i ≡ Some rest
      → (cut : ActorPlan) × ((slice_get shorter i ≡ Some cut) × ((cut.root ≡ plan.root) × (plan.calls ≡ cut.calls ++ rest)))

none_cut : (rests : List (List Planned)) (cuts : List Seat) → AreCut [] rests cuts → cuts ≡ []
none_cut [] [] are = refl
none_cut [] (cut ∷ cuts) are = absurd are
none_cut (rest ∷ rests) cuts are = absurd are

abbrev first_seat : State → ℕ → List Planned → Seat
first_seat s k calls = record { ledger = opened_ledger (root_in s k) calls; doing = None }

abbrev plan_with : List Planned → ActorPlan → ActorPlan
plan_with calls plan = record { root = plan.root; calls = calls }

-- one plan before those of the others
module _ (s t : State) (k : ℕ) (plan : ActorPlan) (plans : List ActorPlan) (others : Granted) (rest : List Planned) (rests : List (List Planned)) (cut : Seat) (cuts : List Seat)
    (ok : grants s k plan.root ≡ Ok t) (is : IsCutSeat (first_seat s k plan.calls) rest cut) (later : CutPlans t (suc k) plans others rests cuts) where
  abbrev calls : List Planned
  calls = cut.ledger.to_come

  each_of : (i : ℕ) (p : ActorPlan) (r : List Planned) → slice_get (plan ∷ plans) i ≡ Some p → slice_get (rest ∷ rests) i ≡ Some r
      → (c : ActorPlan) × ((slice_get (plan_with calls plan ∷ later.shorter) i ≡ Some c) × ((c.root ≡ p.root) × (p.calls ≡ c.calls ++ r)))
  each_of zero p r e q =
      let mine : plan ≡ p = same_Some plan p e in (
        plan_with calls plan,
        (
          refl,
          (
            ap (λ (x : ActorPlan). x.root) mine,
            sym (ap (λ (x : ActorPlan). x.calls) mine) ∙ (is.calls ∙ ap (λ (ps : List Planned). calls ++ ps) (same_Some rest r q)),
          ),
        ),
      )
  each_of (suc i) p r e q = later.each i p r e q

  one_plan : CutPlans s k (plan ∷ plans) (record { tree = others.tree; ledgers = opened_ledger (root_in s k) plan.calls ∷ others.ledgers }) (rest ∷ rests) (cut ∷ cuts)
  one_plan = record {
    shorter = plan_with calls plan ∷ later.shorter;
    ledgers = opened_ledger (root_in s k) calls ∷ later.ledgers;
    are_granted = ap (λ (r : Result State Errno). onward_from k r (λ u. before (opened_ledger (root_in s k) calls) (granted u (suc k) later.shorter))) ok
        ∙ ap (λ (g : Grants). before (opened_ledger (root_in s k) calls) g) later.are_granted;
    seated = ap (λ (c : Seat). c ∷ cuts) is.same ∙ ap (λ (cs : List Seat). first_seat s k calls ∷ cs) later.seated;
    many = ap suc later.many;
    each = each_of;
  }

abbrev Later : ℕ → List ActorPlan → Type 0
Later k plans = (t : State) (others : Granted) (rests : List (List Planned)) (cuts : List Seat) → granted t k plans ≡ Ok others → AreCut (seats_of others.ledgers) rests cuts
    → CutPlans t k plans others rests cuts

pub cut_plans : (plans : List ActorPlan) (s : State) (k : ℕ) (roots : Granted) (rests : List (List Planned)) (cuts : List Seat) → granted s k plans ≡ Ok roots
    → AreCut (seats_of roots.ledgers) rests cuts → CutPlans s k plans roots rests cuts
cut_plans [] s k roots rests cuts e are = subst (λ (g : Granted). AreCut (seats_of g.ledgers) rests cuts → CutPlans s k [] g rests cuts) (on e) nobody are
  where
    on : granted s k [] ≡ Ok roots → record { tree = s; ledgers = [] } ≡ roots
    on f = cc (f)

    nobody : AreCut [] rests cuts → CutPlans s k [] (record { tree = s; ledgers = [] }) rests cuts
    nobody none = record {
      shorter = [];
      ledgers = [];
      are_granted = refl;
      seated = none_cut rests cuts none;
      many = refl;
      each = λ i plan rest q there. absurd (none-some plan q);
    }
cut_plans (plan ∷ plans) s k roots rests cuts e are =
    on_grant (grants s k plan.root) refl (λ t others rs cs q is. cut_plans plans t (suc k) others rs cs q is) e
  where
    with_first : (t : State) (others : Granted) → grants s k plan.root ≡ Ok t → granted t (suc k) plans ≡ Ok others → Later (suc k) plans → (rs : List (List Planned)) (cs : List Seat)
        → AreCut (first_seat s k plan.calls ∷ seats_of others.ledgers) rs cs
        → CutPlans s k (plan ∷ plans) (record { tree = others.tree; ledgers = opened_ledger (root_in s k) plan.calls ∷ others.ledgers }) rs cs
    with_first t others ok q later [] cs is = absurd is
    with_first t others ok q later (rest ∷ rs) [] is = absurd is
    with_first t others ok q later (rest ∷ rs) (cut ∷ cs) is = one_plan s t k plan plans others rest rs cut cs ok is.0 (later t others rs cs q is.1)

    on_rest : (t : State) → grants s k plan.root ≡ Ok t → (found : Grants) → granted t (suc k) plans ≡ found → Later (suc k) plans
        → before (opened_ledger (root_in s k) plan.calls) found ≡ Ok roots → CutPlans s k (plan ∷ plans) roots rests cuts
    on_rest t ok (Err refusal) q later f = cc (f)
    on_rest t ok (Ok others) q later f =
        let is : record { tree = others.tree; ledgers = opened_ledger (root_in s k) plan.calls ∷ others.ledgers } ≡ roots = cc (f) in
        subst (λ (g : Granted). AreCut (seats_of g.ledgers) rests cuts → CutPlans s k (plan ∷ plans) g rests cuts) is
        (λ these. with_first t others ok q later rests cuts these) are

    on_grant : (r : Result State Errno) → grants s k plan.root ≡ r → Later (suc k) plans
        → onward_from k r (λ t. before (opened_ledger (root_in s k) plan.calls) (granted t (suc k) plans)) ≡ Ok roots → CutPlans s k (plan ∷ plans) roots rests cuts
    on_grant (Err error) q later f = cc (f)
    on_grant (Ok t) q later f = on_rest t q (granted t (suc k) plans) refl later f

-- ---- none to come

abbrev pub calls_left : List Seat → List (List Planned)
calls_left [] = []
calls_left (seat ∷ seats) = seat.ledger.to_come ∷ calls_left seats

abbrev pub shut : List Seat → List Seat
shut [] = []
shut (seat ∷ seats) = seat_with [] seat ∷ shut seats

pub shut_is_cut : (seats : List Seat) → AreCut seats (calls_left seats) (shut seats)
shut_is_cut [] = tt
shut_is_cut (seat ∷ seats) = (record { calls = refl; same = refl }, shut_is_cut seats)

pub left_at : (seats : List Seat) (i : ℕ) (seat : Seat) → slice_get seats i ≡ Some seat → slice_get (calls_left seats) i ≡ Some seat.ledger.to_come
left_at [] i seat e = absurd (none-some seat e)
left_at (s ∷ seats) zero seat e = ap (λ (t : Seat). Some t.ledger.to_come) (same_Some s seat e)
left_at (s ∷ seats) (suc i) seat e = left_at seats i seat e
