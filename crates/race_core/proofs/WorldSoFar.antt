-- The calls of each actor in a world: from its making, through its turns, to the report.
use Rattle.std.proofs.Common.{◌≡◌, ◌≢◌, ◌⊎◌, ℕ, zero, suc, ◌+◌, List, [], ◌∷◌, ◌++◌, Bool, true, false, ◌||◌, length, Option, Some, None, Result, Ok, Err, is_some, slice_get, refl, sym, ap, subst, ◌∙◌, inl, inr, append-nil, arith, add-zero}
use Rattle.std.specs.Prelude.{slice_set}
use Rattle.std.proofs.lemmas.Bool.{false≢true, cases_eq}
use Rattle.std.proofs.lemmas.Option.{none-some, same_Some}
use Rattle.std.proofs.lemmas.List.{length_push}
use Rattle.path_text.specs.declared.errno.Errno.{Errno}
use Rattle.path_text.specs.declared.errno.Errno.TheVariants.{TooMany}
use Rattle.tree_model.specs.declared.inode.OpenHandle.{OpenHandle}
use Rattle.tree_model.specs.Entries.{refuse_if}
use Rattle.tree_model.specs.State.{State, TOP, is_dir}
use Rattle.tree_model.specs.Steps.{held, node_held, is_full, with_handle, directory_at, grants_at, grants}
use Rattle.tree_model.specs.Trees.{IsState}
use Rattle.tree_model.specs.History.{IsLegal, after_events}
use Rattle.tree_model.proofs.StepsKept.{directory_at-is_dir, grants_keep_trees}
use Rattle.tree_model.proofs.StepLaws.{slice_get-set_other}
use Rattle.step_resolver.specs.declared.walk.Root.{Root}
use Rattle.step_resolver.specs.WalkHistory.{own_events}
use Rattle.step_resolver.proofs.Underway.StepOutcomes.{with_handle-is_more}
use Rattle.root_ops.specs.View.{CallView}
use Rattle.race_core.specs.declared.plan.ActorPlan.{ActorPlan}
use Rattle.race_core.specs.declared.plan.Planned.{Planned}
use Rattle.race_core.specs.declared.seat.Seat.{Seat}
use Rattle.race_core.specs.Book.{BookedHistory, opened_book}
use Rattle.race_core.specs.Ledgers.{LedgerView}
use Rattle.race_core.specs.Opening.{Granted, Grants, before, onward_from, granted, root_in, seats_of, IsOpened}
use Rattle.race_core.specs.OwnHistory.{NoneCloses, IsHistory}
use Rattle.race_core.specs.TurnView.{is_busy, are_some}
use Rattle.race_core.specs.Turns.{Luck, turned, opened_ledger}
use Rattle.race_core.specs.WorldCalls.{WholeRun, IsRun, opening_of, root_of, AreMade, planned_of, events_of_calls, ReleasesOwn, KeptAreReleased, ActorsCalls}
use Rattle.race_core.specs.WorldLaws.{CallsInOrder}
use Rattle.race_core.specs.Worlds.{WorldView, turn_of, turn, Runs, again, AllGoToEnd, RunsOut, AllOver, ledgers_in, replies_in}
use Rattle.race_core.proofs.CallsSoFar.{SoFar, SeatSoFar, turns_so_far, so_far_among_others}
use Rattle.race_core.proofs.BookMoves.{BookMoves, same, one_more, turn_keeps_root, turn_moves}

-- ---- places

pub placed_there : {A : Type 0} (xs : List A) (i : ℕ) (x y : A) → slice_get xs i ≡ Some x → slice_get (slice_set xs i y) i ≡ Some y
placed_there [] i x y e = absurd (none-some x e)
placed_there (z ∷ xs) zero x y e = refl
placed_there (z ∷ xs) (suc i) x y e = placed_there xs i x y e

-- what comes after a list is at the place of its length
pub got_after : {A : Type 0} (xs : List A) (x : A) (rest : List A) → slice_get (xs ++ x ∷ rest) (length xs) ≡ Some x
got_after [] x rest = refl
got_after (y ∷ xs) x rest = got_after xs x rest

-- ---- a turn

-- each seat is that of the actor of its number
abbrev Numbered : WorldView → Type 0
Numbered w = (j : ℕ) (seat : Seat) → slice_get w.seats j ≡ Some seat → seat.ledger.root.owner.actor ≡ j

module _ (opening : State) (i : ℕ) (root : Root) (plan : List Planned) where
  pub record IsUnder (w : WorldView) : Type 0 where
    pub opened : w.book.opening ≡ opening
    pub numbered : Numbered w
    pub seat : Seat
    pub there : slice_get w.seats i ≡ Some seat
    pub rooted : seat.ledger.root ≡ root
    pub far : SeatSoFar plan w.book seat

  opens_so : (book : BookedHistory) (a : ℕ) (new : BookedHistory) → BookMoves book a new → new.opening ≡ book.opening
  opens_so book a new (same is) = ap (λ (b : BookedHistory). b.opening) is
  opens_so book a new (one_more step is) = ap (λ (b : BookedHistory). b.opening) is

  module _ (luck : Luck) (w : WorldView) (j : ℕ) (seat : Seat) (at : slice_get w.seats j ≡ Some seat) (under : IsUnder w) where
    abbrev after : WorldView
    after = turn_of luck w j (Some seat)

    abbrev new_seat : Seat
    new_seat = (turned luck w.book seat.ledger seat.doing).seat

    moves : BookMoves w.book seat.ledger.root.owner.actor after.book
    moves = turn_moves luck w.book seat.ledger seat.doing

    numbered_still : Numbered after
    numbered_still k other e = on (cases_eq k j)
      where
        on : (k ≡ j) ⊎ (k ≢ j) → other.ledger.root.owner.actor ≡ k
        on (inl q) =
            let mine : new_seat ≡ other = same_Some new_seat other (sym (placed_there w.seats j seat new_seat at) ∙ ap (slice_get after.seats) (sym q) ∙ e) in
            ap (λ (s : Seat). s.ledger.root.owner.actor) (sym mine) ∙ ap (λ (r : Root). r.owner.actor) (turn_keeps_root luck w.book seat.ledger seat.doing) ∙ under.numbered j seat at ∙ sym q
        on (inr ne) = under.numbered k other (sym (slice_get-set_other w.seats j new_seat k ne) ∙ e)

    by_itself : j ≡ i → IsUnder after
    by_itself q =
        let mine : under.seat ≡ seat = same_Some under.seat seat (sym under.there ∙ ap (slice_get w.seats) (sym q) ∙ at) in
        let far : SeatSoFar plan w.book seat = subst (SeatSoFar plan w.book) mine under.far in
        record {
          opened = opens_so w.book seat.ledger.root.owner.actor after.book moves ∙ under.opened;
          numbered = numbered_still;
          seat = new_seat;
          there = ap (slice_get after.seats) (sym q) ∙ placed_there w.seats j seat new_seat at;
          rooted = turn_keeps_root luck w.book seat.ledger seat.doing ∙ ap (λ (s : Seat). s.ledger.root) (sym mine) ∙ under.rooted;
          far = turns_so_far plan luck w.book seat.ledger seat.doing far;
        }

    by_another : i ≢ j → IsUnder after
    by_another ne =
        let other : seat.ledger.root.owner.actor ≢ under.seat.ledger.root.owner.actor =
        λ e. ne (sym (under.numbered i under.seat under.there) ∙ sym e ∙ under.numbered j seat at) in
        record {
          opened = opens_so w.book seat.ledger.root.owner.actor after.book moves ∙ under.opened;
          numbered = numbered_still;
          seat = under.seat;
          there = slice_get-set_other w.seats j new_seat i ne ∙ under.there;
          rooted = under.rooted;
          far = so_far_among_others plan w.book seat.ledger.root.owner.actor after.book under.seat.ledger under.seat.doing other moves under.far;
        }

    turned_under : IsUnder after
    turned_under = on (cases_eq i j)
      where
        on : (i ≡ j) ⊎ (i ≢ j) → IsUnder after
        on (inl q) = by_itself (sym q)
        on (inr ne) = by_another ne

  turn_under : (luck : Luck) (w : WorldView) (j : ℕ) → IsUnder w → IsUnder (turn luck w j)
  turn_under luck w j under = on (slice_get w.seats j) refl
    where
      on : (o : Option Seat) → slice_get w.seats j ≡ o → IsUnder (turn_of luck w j o)
      on None e = under
      on (Some seat) e = turned_under luck w j seat e under

  -- ---- runs

  runs_under : (is : List ℕ) (w v : WorldView) → IsUnder w → Runs w is v → IsUnder v
  runs_under [] w v under ran = subst IsUnder (sym ran) under
  runs_under (j ∷ is) w v under ran = runs_under is (turn ran.0 w j) v (turn_under ran.0 w j under) ran.1

  all_under : (is : List ℕ) (w v : WorldView) → IsUnder w → AllGoToEnd w is v → IsUnder v
  all_under [] w v under gone = subst IsUnder (sym gone) under
  all_under (j ∷ is) w v under gone = all_under is gone.0 v (runs_under (again j gone.1.turns) w gone.0 under gone.1.run) gone.2

  pub out_under : (schedule : List ℕ) (w v : WorldView) → IsUnder w → RunsOut w schedule v → IsUnder v
  out_under schedule w v under out =
      all_under _ out.middle v (runs_under schedule w out.middle under out.scheduled) out.rest

-- ---- the opening

-- a root was granted
pub record IsRooted (s : State) (a : ℕ) (h node : ℕ) : Type 0 where
  pub is_open : held s a h ≡ Some node
  pub dir : is_dir s.nodes node ≡ true

grant_is : (s t : State) (a : ℕ) (names : List (List ℕ)) → grants s a names ≡ Ok t → (x : ℕ) × ((t ≡ with_handle s a x) × (is_dir s.nodes x ≡ true))
grant_is s t a names e = on (directory_at s.nodes TOP names) refl e
  where
    on_full : (full : Bool) (x : ℕ) → is_dir s.nodes x ≡ true → refuse_if full (Err TooMany) (Ok (with_handle s a x)) ≡ Ok t
        → (x : ℕ) × ((t ≡ with_handle s a x) × (is_dir s.nodes x ≡ true))
    on_full true x dir f = cc (f)
    on_full false x dir f = let is : with_handle s a x ≡ t = cc (f) in (x, (sym is, dir))

    on : (found : Result ℕ Errno) → directory_at s.nodes TOP names ≡ found → grants_at s a found ≡ Ok t → (x : ℕ) × ((t ≡ with_handle s a x) × (is_dir s.nodes x ≡ true))
    on (Err error) q f = cc (f)
    on (Ok x) q f = on_full (is_full s a) x (directory_at-is_dir s.nodes TOP x names q) f

held_still : (s : State) (a b x h node : ℕ) → IsRooted s b h node → IsRooted (with_handle s a x) b h node
held_still s a b x h node is = record { is_open = on (slice_get s.handles h) refl is.is_open; dir = is.dir }
  where
    among : (hs : List (Option OpenHandle)) (k : ℕ) (o : Option OpenHandle) → slice_get hs k ≡ Some o → slice_get (hs ++ Some (record { actor = a; node = x }) ∷ []) k ≡ Some o
    among [] k o e = absurd (none-some o e)
    among (y ∷ hs) zero o e = e
    among (y ∷ hs) (suc k) o e = among hs k o e

    on : (o : Option (Option OpenHandle)) → slice_get s.handles h ≡ o → held s b h ≡ Some node → held (with_handle s a x) b h ≡ Some node
    on None q e = absurd (none-some node (sym (ap (node_held b) q) ∙ e))
    on (Some o) q e = ap (node_held b) (among s.handles h o q) ∙ sym (ap (node_held b) q) ∙ e

-- what one more root leaves: a tree, the roots so far, and one handle more
granted_one : (s t : State) (a : ℕ) (names : List (List ℕ)) → grants s a names ≡ Ok t
    → ((b h node : ℕ) → IsRooted s b h node → IsRooted t b h node) × (((x : ℕ) × IsRooted t a (length s.handles) x) × (length t.handles ≡ suc (length s.handles)))
granted_one s t a names e =
    let g = grant_is s t a names e in
    let root : IsRooted (with_handle s a g.0) a (length s.handles) g.0 = record { is_open = (with_handle-is_more s a g.0).is_open; dir = g.1.1 } in
    let counted : length (with_handle s a g.0).handles ≡ suc (length s.handles) = omega (arith, length_push s.handles (Some (record { actor = a; node = g.0 }))) in (
      λ b h node is. subst (λ (u : State). IsRooted u b h node) (sym g.1.0) (held_still s a b g.0 h node is),
      ((g.0, subst (λ (u : State). IsRooted u a (length s.handles) g.0) (sym g.1.0) root), ap (λ (u : State). length u.handles) g.1.0 ∙ counted),
    )

pub record IsSeated (roots : Granted) (i h : ℕ) (calls : List Planned) (ledger : LedgerView) : Type 0 where
  pub is : ledger ≡ opened_ledger (record { owner = record { tag = 0; actor = i }; handle = h }) calls
  pub node : ℕ
  pub rooted : IsRooted roots.tree i h node

-- what holds of the grants from the actor numbered k on
pub record AreGranted (s : State) (k : ℕ) (plans : List ActorPlan) (roots : Granted) : Type 0 where
  pub tree : IsState s → IsState roots.tree
  pub keeps : (b h node : ℕ) → IsRooted s b h node → IsRooted roots.tree b h node
  pub numbered : (j : ℕ) (ledger : LedgerView) → slice_get roots.ledgers j ≡ Some ledger → ledger.root.owner.actor ≡ k + j
  pub each : (j : ℕ) (plan : ActorPlan) → slice_get plans j ≡ Some plan → (ledger : LedgerView) × ((slice_get roots.ledgers j ≡ Some ledger) × IsSeated roots (k + j) (length s.handles + j) plan.calls ledger)

all_granted : (plans : List ActorPlan) (s : State) (k : ℕ) (roots : Granted) → granted s k plans ≡ Ok roots → AreGranted s k plans roots
all_granted [] s k roots e = subst (λ (g : Granted). AreGranted s k [] g) (on e) (record {
  tree = λ is. is;
  keeps = λ b h node is. is;
  numbered = λ j ledger q. absurd (none-some ledger q);
  each = λ j plan q. absurd (none-some plan q);
})
  where
    on : granted s k [] ≡ Ok roots → record { tree = s; ledgers = [] } ≡ roots
    on f = cc (f)
all_granted (plan ∷ plans) s k roots e = on_grant (grants s k plan.root) refl (λ t others o. all_granted plans t (suc k) others o) e
  where
    on_rest : (t : State) → grants s k plan.root ≡ Ok t → (rest : Grants) → granted t (suc k) plans ≡ rest
        → ((others : Granted) → granted t (suc k) plans ≡ Ok others → AreGranted t (suc k) plans others)
        → before (opened_ledger (root_in s k) plan.calls) rest ≡ Ok roots → AreGranted s k (plan ∷ plans) roots
    on_rest t ok (Err refusal) q later f = cc (f)
    on_rest t ok (Ok others) q later f =
        let is : record { tree = others.tree; ledgers = opened_ledger (root_in s k) plan.calls ∷ others.ledgers } ≡ roots = cc (f) in
        let more = later others q in
        let one = granted_one s t k plan.root ok in
        subst (λ (g : Granted). AreGranted s k (plan ∷ plans) g) is (record {
          tree = λ tree. more.tree (grants_keep_trees s t k plan.root tree ok);
          keeps = λ b h node was. more.keeps b h node (one.0 b h node was);
          numbered = numbers others.ledgers more.numbered;
          each = seats t others one more.each (λ b h node was. more.keeps b h node was);
        })
      where
        numbers : (ledgers : List LedgerView) → ((j : ℕ) (ledger : LedgerView) → slice_get ledgers j ≡ Some ledger → ledger.root.owner.actor ≡ suc k + j)
            → (j : ℕ) (ledger : LedgerView) → slice_get (opened_ledger (root_in s k) plan.calls ∷ ledgers) j ≡ Some ledger → ledger.root.owner.actor ≡ k + j
        numbers ledgers rest zero ledger q =
            let mine : opened_ledger (root_in s k) plan.calls ≡ ledger = same_Some _ ledger q in
            ap (λ (l : LedgerView). l.root.owner.actor) (sym mine) ∙ omega arith
        numbers ledgers rest (suc j) ledger q = rest j ledger q ∙ omega arith

        seats : (t : State) (others : Granted)
            → ((b h node : ℕ) → IsRooted s b h node → IsRooted t b h node) × (((x : ℕ) × IsRooted t k (length s.handles) x) × (length t.handles ≡ suc (length s.handles)))
            → ((j : ℕ) (p : ActorPlan) → slice_get plans j ≡ Some p
            → (ledger : LedgerView) × ((slice_get others.ledgers j ≡ Some ledger) × IsSeated others (suc k + j) (length t.handles + j) p.calls ledger))
            → ((b h node : ℕ) → IsRooted t b h node → IsRooted others.tree b h node)
            → (j : ℕ) (p : ActorPlan) → slice_get (plan ∷ plans) j ≡ Some p
            → (ledger : LedgerView) × ((slice_get (opened_ledger (root_in s k) plan.calls ∷ others.ledgers) j ≡ Some ledger)
            × IsSeated (record { tree = others.tree; ledgers = opened_ledger (root_in s k) plan.calls ∷ others.ledgers }) (k + j) (length s.handles + j) p.calls ledger)
        seats t others one rest keeps zero p q =
            let mine : plan ≡ p = same_Some plan p q in (
              opened_ledger (root_in s k) plan.calls,
              (
                refl,
                record {
                  is = ap (λ (n : ℕ). opened_ledger (record { owner = record { tag = 0; actor = n }; handle = length s.handles }) plan.calls) (sym (add-zero k))
                      ∙ ap (λ (n : ℕ). opened_ledger (record { owner = record { tag = 0; actor = k + 0 }; handle = n }) plan.calls) (sym (add-zero (length s.handles)))
                      ∙ ap (λ (r : ActorPlan). opened_ledger (record { owner = record { tag = 0; actor = k + 0 }; handle = length s.handles + 0 }) r.calls) mine;
                  node = one.1.0.0;
                  rooted = subst (λ (n : ℕ). IsRooted others.tree n (length s.handles + 0) one.1.0.0) (sym (add-zero k))
                      (subst (λ (n : ℕ). IsRooted others.tree k n one.1.0.0) (sym (add-zero (length s.handles))) (keeps k (length s.handles) one.1.0.0 one.1.0.1));
                },
              ),
            )
        seats t others one rest keeps (suc j) p q =
            let later = rest j p q in
            let number : suc k + j ≡ k + suc j = omega arith in
            let handle : length t.handles + j ≡ length s.handles + suc j = omega (arith, one.1.1) in (
              later.0,
              (
                later.1.0,
                record {
                  is = later.1.1.is
                      ∙ ap (λ (n : ℕ). opened_ledger (record { owner = record { tag = 0; actor = n }; handle = length t.handles + j }) p.calls) number
                      ∙ ap (λ (n : ℕ). opened_ledger (record { owner = record { tag = 0; actor = k + suc j }; handle = n }) p.calls) handle;
                  node = later.1.1.node;
                  rooted = subst (λ (n : ℕ). IsRooted others.tree n (length s.handles + suc j) later.1.1.node) number
                      (subst (λ (n : ℕ). IsRooted others.tree (suc k + j) n later.1.1.node) handle later.1.1.rooted);
                },
              ),
            )

    on_grant : (r : Result State Errno) → grants s k plan.root ≡ r → ((t : State) (others : Granted) → granted t (suc k) plans ≡ Ok others → AreGranted t (suc k) plans others)
        → onward_from k r (λ t. before (opened_ledger (root_in s k) plan.calls) (granted t (suc k) plans)) ≡ Ok roots → AreGranted s k (plan ∷ plans) roots
    on_grant (Err error) q later f = cc (f)
    on_grant (Ok t) q later f = on_rest t q (granted t (suc k) plans) refl (later t) f

-- ---- the report

from_zero : (n : ℕ) → 0 + n ≡ n
from_zero n = omega arith

seated_at : (ledgers : List LedgerView) (i : ℕ) (ledger : LedgerView) → slice_get ledgers i ≡ Some ledger → slice_get (seats_of ledgers) i ≡ Some (record { ledger = ledger; doing = None })
seated_at [] i ledger e = absurd (none-some ledger e)
seated_at (l ∷ ledgers) zero ledger e = ap (λ (k : LedgerView). Some (record { ledger = k; doing = None })) (same_Some l ledger e)
seated_at (l ∷ ledgers) (suc i) ledger e = seated_at ledgers i ledger e

seat_from : (ledgers : List LedgerView) (j : ℕ) (seat : Seat) → slice_get (seats_of ledgers) j ≡ Some seat → slice_get ledgers j ≡ Some seat.ledger
seat_from [] j seat e = absurd (none-some seat e)
seat_from (l ∷ ledgers) zero seat e = ap (λ (k : Seat). Some k.ledger) (same_Some (record { ledger = l; doing = None }) seat e)
seat_from (l ∷ ledgers) (suc j) seat e = seat_from ledgers j seat e

over_at : (seats : List Seat) (i : ℕ) (seat : Seat) → AllOver seats → slice_get seats i ≡ Some seat → is_busy seat ≡ false
over_at [] i seat over e = absurd (none-some seat e)
over_at (s ∷ seats) zero seat over e = ap is_busy (sym (same_Some s seat e)) ∙ over.0
over_at (s ∷ seats) (suc i) seat over e = over_at seats i seat over.1 e

reply_at : (seats : List Seat) (i : ℕ) (seat : Seat) → slice_get seats i ≡ Some seat → slice_get (replies_in (ledgers_in seats)) i ≡ Some seat.ledger.outcomes
reply_at [] i seat e = absurd (none-some seat e)
reply_at (s ∷ seats) zero seat e = ap (λ (k : Seat). Some k.ledger.outcomes) (same_Some s seat e)
reply_at (s ∷ seats) (suc i) seat e = reply_at seats i seat e

module _ (r : WholeRun) (i : ℕ) (plan : ActorPlan) (run : IsRun r) (planned : slice_get r.plans i ≡ Some plan) where
  opens : IsOpened r.given r.plans r.lines r.world
  opens = run.opens

  grants_all : AreGranted r.given 0 r.plans opens.roots
  grants_all = all_granted r.plans r.given 0 opens.roots opens.are_granted

  opening_is : opening_of r ≡ opens.roots.tree
  opening_is = ap (λ (w : WorldView). w.book.opening) opens.is

  ours : (ledger : LedgerView) × ((slice_get opens.roots.ledgers i ≡ Some ledger) × IsSeated opens.roots i (length r.given.handles + i) plan.calls ledger)
  ours =
      subst (λ (n : ℕ). (ledger : LedgerView) × ((slice_get opens.roots.ledgers i ≡ Some ledger) × IsSeated opens.roots n (length r.given.handles + i) plan.calls ledger))
      (from_zero i) (grants_all.each i plan planned)

  abbrev first_seat : Seat
  first_seat = record { ledger = opened_ledger (root_of r i) plan.calls; doing = None }

  first_there : slice_get (seats_of opens.roots.ledgers) i ≡ Some first_seat
  first_there = seated_at opens.roots.ledgers i _ (ours.1.0 ∙ ap (λ (l : LedgerView). Some l) ours.1.1.is)

  at_first : IsUnder opens.roots.tree i (root_of r i) plan.calls (record { book = opened_book opens.roots.tree r.lines; seats = seats_of opens.roots.ledgers; spent = false })
  at_first = record {
    opened = refl;
    numbered = λ j seat e. grants_all.numbered j seat.ledger (seat_from opens.roots.ledgers j seat e) ∙ from_zero j;
    seat = first_seat;
    there = first_there;
    rooted = refl;
    far = record {
      calls = [];
      made = tt;
      outcomes = refl;
      released = λ own. tt;
      at = record {
        planned = refl;
        standings = refl;
        own = refl;
        spared = λ own. record { are_open = (ap is_some ours.1.1.rooted.is_open, (tt, tt)); root = tt };
      };
    };
  }

  at_start : IsUnder opens.roots.tree i (root_of r i) plan.calls r.world
  at_start = subst (λ (w : WorldView). IsUnder opens.roots.tree i (root_of r i) plan.calls w) (sym opens.is) at_first

  end : IsUnder opens.roots.tree i (root_of r i) plan.calls run.runs.end
  end = out_under opens.roots.tree i (root_of r i) plan.calls r.schedule r.world run.runs.end at_start run.runs.runs

  is_history : IsHistory (opening_of r) r.events (root_of r i) ours.1.1.node
  is_history = record {
    tree = subst IsState (sym opening_is) (grants_all.tree run.tree);
    legal = subst (λ (s : State). IsLegal s r.events) (end.opened ∙ sym opening_is) (subst (IsLegal run.runs.end.book.opening) (sym run.runs.reports.are_events) run.runs.reports.legal);
    opened = ap (λ (s : State). held s i (length r.given.handles + i)) opening_is ∙ ours.1.1.rooted.is_open;
    directory = ap (λ (s : State). is_dir s.nodes ours.1.1.node) opening_is ∙ ours.1.1.rooted.dir;
  }

  told : (seat : Seat) → slice_get run.runs.end.seats i ≡ Some seat → seat.ledger.root ≡ root_of r i → is_busy seat ≡ false → SeatSoFar plan.calls run.runs.end.book seat → ActorsCalls r i plan
  told seat there rooted over far = on seat.doing refl far
    where
      on : (doing : Option CallView) → seat.doing ≡ doing → SoFar plan.calls run.runs.end.book seat.ledger doing → ActorsCalls r i plan
      on (Some call) e f = absurd (false≢true (sym over ∙ ap (λ (d : Option CallView). is_some d || are_some seat.ledger.to_come) e))
      on None e f = on_left seat.ledger.to_come refl (sym (ap (λ (d : Option CallView). is_some d || are_some seat.ledger.to_come) e) ∙ over)
        where
          on_left : (left : List Planned) → seat.ledger.to_come ≡ left → are_some seat.ledger.to_come ≡ false → ActorsCalls r i plan
          on_left (next ∷ others) q none = absurd (false≢true (sym none ∙ ap are_some q))
          on_left [] q none = record {
            node = ours.1.1.node;
            history = is_history;
            leads = run.runs.reports.is_tree ∙ ap (λ (s : State). after_events s run.runs.end.book.events) (end.opened ∙ sym opening_is)
                ∙ ap (after_events (opening_of r)) (sym run.runs.reports.are_events);
            calls = f.calls;
            planned = sym (append-nil (planned_of f.calls)) ∙ ap (λ ps. planned_of f.calls ++ ps) (sym q) ∙ sym f.at.planned;
            made = subst (λ (t : Root). AreMade t [] f.calls) rooted f.made;
            own = ap (own_events i) run.runs.reports.are_events ∙ subst (λ (t : Root). own_events t.owner.actor run.runs.end.book.events ≡ events_of_calls t.owner.actor f.calls) rooted f.at.own;
            spared = λ own. subst (NoneCloses (root_of r i).handle) (sym (ap (own_events i) run.runs.reports.are_events))
                (subst (λ (t : Root). ReleasesOwn t.owner plan.calls → NoneCloses t.handle (own_events t.owner.actor run.runs.end.book.events)) rooted (λ mine. (f.at.spared mine).root) own);
            released = subst (λ (t : Root). ReleasesOwn t.owner plan.calls → KeptAreReleased t.owner [] f.calls) rooted f.released;
            replies = ap (λ rs. slice_get rs i) run.runs.reports.are_replies ∙ reply_at run.runs.end.seats i seat there ∙ ap (λ os. Some os) f.outcomes;
          }

  pub actors_calls : ActorsCalls r i plan
  actors_calls = told end.seat end.there end.rooted (over_at run.runs.end.seats i end.seat run.runs.over end.there) end.far

pub calls_in_order : CallsInOrder
calls_in_order r i plan run planned = actors_calls r i plan run planned
