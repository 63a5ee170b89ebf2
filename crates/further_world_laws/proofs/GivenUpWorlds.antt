-- What a given up world is reported as, and what its actors hold.
use Rattle.std.specs.Prelude.{◌≡◌, ◌≤◌, ◌==◌, if◌then◌else◌, ℕ, List, [], ◌∷◌, ◌++◌, Bool, true, false, length, Option, Some, None, slice_get, refl}
use Rattle.std.proofs.Common.{◌⊎◌, inl, inr, ⊎_elim, sym, ap, subst, ◌∙◌, append-nil, append_assoc}
use Rattle.std.proofs.lemmas.Bool.{true≢false}
use Rattle.std.proofs.lemmas.Option.{same_Some}
use Rattle.tree_model.specs.Steps.{held}
use Rattle.tree_model.specs.State.{State}
use Rattle.handles.specs.declared.owner.Owner.{Owner}
use Rattle.handles.specs.Objects.{StandingObject}
use Rattle.step_resolver.specs.declared.walk.Root.{Root}
use Rattle.step_resolver.specs.WalkHistory.{own_events}
use Rattle.root_ops.specs.declared.op.Op.{Op}
use Rattle.root_ops.specs.declared.op.Op.TheVariants.{Resolve, ResolveNoFollow, ReadLink, CreateFile, CreateDir, CreateLink, RemoveFile, RemoveDir, Rename, MkdirAll, RemoveAll, Single, Release}
use Rattle.root_ops.specs.declared.op.Request.{Request}
use Rattle.root_ops.specs.Order.{Reply, opened, link_text, done, count, stepped, kept, fault}
use Rattle.root_ops.specs.View.{CallView}
use Rattle.race_core.specs.declared.plan.ActorPlan.{ActorPlan}
use Rattle.race_core.specs.declared.plan.Planned.{Planned}
use Rattle.race_core.specs.declared.plan.Planned.TheVariants as planned
use Rattle.race_core.specs.declared.report.Outcome.{Outcome}
use Rattle.race_core.specs.declared.seat.Seat.{Seat}
use Rattle.race_core.specs.declared.opening.TheConstants.{ACTORS_MAX}
use Rattle.race_core.specs.Book.{BookedHistory, tree_now}
use Rattle.race_core.specs.EndHandles.{Word, words_of_done, words_of_call, all_words, last_word, HandlesAtEnd}
use Rattle.race_core.specs.JoinedRuns.{TakesTurns, TurnsJoinRuns}
use Rattle.race_core.specs.Opening.{IsOpened, seats_of}
use Rattle.race_core.specs.Turns.{request_of, outcome_of}
use Rattle.race_core.specs.WorldCalls.{kept_after, WholeRun, CallMade, kept_after_all, AreMade, planned_of, outcomes_of, events_of_calls, ReleasesOwn, ActorsCalls}
use Rattle.race_core.specs.WorldLaws.{CallsInOrder}
use Rattle.race_core.specs.Worlds.{WorldView, AllGoToEnd, AllOver, ledgers_in, replies_in, kept_in, RunsTo}
use Rattle.race_core.proofs.ReportsThere.{IsLegalBook, legal_after}
use Rattle.race_core.proofs.JoinedRuns.{spent_of}
use Rattle.race_core.proofs.HandlesLeft.{words_on}
use Rattle.further_world_laws.specs.GivenUpWorlds.{GivenUpWorld, WasGivenUp, opening_tree, granted_root, tells_opened, LastOutcome, IsCutPlan, report_on, IsReported, GivenUpIsReported, OneIfUnderWay, HoldsAfter, GivenUpClosesAll}
use Rattle.further_world_laws.proofs.GivesUp.{numbers_from, numbers_are, AllGoOver, all_go_over, shut_left, shut_none, shut_gives, replies_told}
use Rattle.further_world_laws.proofs.LegalTurns.{legal_turns}
use Rattle.further_world_laws.proofs.OpensNothing.{AllGoToNone, opened_so, turns_go_to_none}
use Rattle.further_world_laws.proofs.Shorter.{AreCut, IsCutWorld, same_world, turns_cut, CutPlans, cut_plans, calls_left, shut, shut_is_cut, left_at}

-- ---- the report

still_spent : (w : WorldView) (made : List ℕ) (v : WorldView) → TakesTurns w made v → v.spent ≡ w.spent
still_spent w [] v taken = ap (λ (u : WorldView). u.spent) taken
still_spent w (i ∷ made) v taken =
    let one = taken.1.1 in
    still_spent taken.0 made v taken.2 ∙ (ap (λ (u : WorldView). u.spent) one.is ∙ spent_of one.luck w i (slice_get w.seats i))

module _ (join : TurnsJoinRuns) (g : GivenUpWorld) (was : WasGivenUp g) where
  opens : IsOpened g.given g.plans g.lines g.world
  opens = was.opens

  abbrev last : WorldView
  last = g.last

  -- the world then, but that nothing is to come
  abbrev closed : WorldView
  closed = record { book = last.book; seats = shut last.seats; spent = last.spent }

  before : (x : WorldView) × (IsCutWorld g.world (calls_left last.seats) x × TakesTurns x g.made closed)
  before = turns_cut g.world g.made last (calls_left last.seats) closed was.turns (record { book = refl; spent = refl; seats = shut_is_cut last.seats })

  abbrev first : WorldView
  first = before.0

  cut_at_first : AreCut (seats_of opens.roots.ledgers) (calls_left last.seats) first.seats
  cut_at_first = subst (λ (w : WorldView). AreCut w.seats (calls_left last.seats) first.seats) opens.is before.1.0.seats

  cut_so : CutPlans g.given 0 g.plans opens.roots (calls_left last.seats) first.seats
  cut_so = cut_plans g.plans g.given 0 opens.roots (calls_left last.seats) first.seats opens.are_granted cut_at_first

  opened_cut : IsOpened g.given cut_so.shorter g.lines first
  opened_cut = record {
    few = subst (λ (n : ℕ). n ≤ ACTORS_MAX) (sym cut_so.many) opens.few;
    roots = record { tree = opens.roots.tree; ledgers = cut_so.ledgers };
    are_granted = cut_so.are_granted;
    bounded = opens.bounded;
    enough = opens.enough;
    is = same_world first _ (before.1.0.book ∙ ap (λ (w : WorldView). w.book) opens.is) cut_so.seated (before.1.0.spent ∙ ap (λ (w : WorldView). w.spent) opens.is);
  }

  none_opens : AllGoToNone last.seats
  none_opens = turns_go_to_none g.world g.made last was.turns (subst (λ (w : WorldView). AllGoToNone w.seats) (sym opens.is) (opened_so opens.roots.ledgers))

  all_over : AllGoOver closed [] (shut last.seats) g.after
  all_over = all_go_over (shut last.seats) closed [] g.after refl (shut_left last.seats) (shut_none last.seats none_opens) (shut_gives last.seats last.book g.after was.gives_up)

  abbrev replies : List (List Outcome)
  replies = replies_in (ledgers_in all_over.end.seats)

  abbrev others_kept : List StandingObject
  others_kept = kept_in (ledgers_in all_over.end.seats)

  legal_at_first : IsLegalBook g.world.book
  legal_at_first = subst (λ (w : WorldView). IsLegalBook w.book) (sym opens.is) tt

  run_to_end : RunsTo closed [] (tree_now g.after) g.after.events replies others_kept
  run_to_end = record {
    had_memory = still_spent g.world g.made last was.turns ∙ ap (λ (w : WorldView). w.spent) opens.is;
    within = refl;
    end = all_over.end;
    runs = record {
      middle = closed;
      scheduled = refl;
      rest = subst (λ (ns : List ℕ). AllGoToEnd closed ns all_over.end) (sym (numbers_are (length (shut last.seats)))) all_over.gone;
    };
    over = subst AllOver (sym all_over.seated) all_over.over;
    reports = record {
      is_tree = ap tree_now (sym all_over.book);
      are_events = ap (λ (b : BookedHistory). b.events) (sym all_over.book);
      legal = legal_after (numbers_from 0 (length (shut last.seats))) closed all_over.end all_over.gone (legal_turns g.world g.made last was.turns legal_at_first);
      are_replies = refl;
      is_kept = refl;
    };
  }

  run : RunsTo first g.made (tree_now g.after) g.after.events replies others_kept
  run = subst (λ (ns : List ℕ). RunsTo first ns (tree_now g.after) g.after.events replies others_kept) (append-nil g.made)
      (join first closed g.made [] (tree_now g.after) g.after.events replies others_kept before.1.1 run_to_end)

  each_cut : (i : ℕ) (plan : ActorPlan) (seat : Seat) → slice_get g.plans i ≡ Some plan → slice_get last.seats i ≡ Some seat
      → (cut : ActorPlan) × ((slice_get cut_so.shorter i ≡ Some cut)
      × ((told : List Outcome) × ((slice_get replies i ≡ Some told) × IsCutPlan plan seat cut told)))
  each_cut i plan seat planned_so there =
      let cut = cut_so.each i plan seat.ledger.to_come planned_so (left_at last.seats i seat there) in
      let told = replies_told last.seats all_over.news i seat all_over.told there in (
        cut.0,
        (
          cut.1.0,
          (
            told.outcomes,
            (
              ap (λ (ss : List Seat). slice_get (replies_in (ledgers_in ss)) i) all_over.seated ∙ told.there,
              record { root = cut.1.1.0; calls = cut.1.1.1; last = told.last; outcomes = told.told; is_last = told.is_last },
            ),
          ),
        ),
      )

  reported : IsReported g
  reported = record {
    plans = cut_so.shorter;
    world = first;
    replies = replies;
    kept = others_kept;
    is_run = record { tree = was.tree; opens = opened_cut; runs = run };
    opening = ap (λ (b : BookedHistory). b.opening) before.1.0.book;
    actors = cut_so.many;
    each = each_cut;
  }

pub given_up_is_reported : TurnsJoinRuns → GivenUpIsReported
given_up_is_reported join g was = reported join g was

-- ---- the handles

own_front : (owner : Owner) (calls rest : List Planned) → ReleasesOwn owner (calls ++ rest) → ReleasesOwn owner calls
own_front owner [] rest own = tt
own_front owner (planned.Call request ∷ calls) rest own = (own.0, own_front owner calls rest own.1)
own_front owner (planned.Single step ∷ calls) rest own = own_front owner calls rest own
own_front owner (planned.Release call ∷ calls) rest own = own_front owner calls rest own

-- calls with these outcomes, in two
record InTwo (calls : List CallMade) (ys zs : List Outcome) : Type 0 where
  pub first : List CallMade
  pub second : List CallMade
  pub whole : calls ≡ first ++ second
  pub first_told : outcomes_of first ≡ ys
  pub second_told : outcomes_of second ≡ zs

in_two : (calls : List CallMade) (ys zs : List Outcome) → outcomes_of calls ≡ ys ++ zs → InTwo calls ys zs
in_two calls [] zs e = record { first = []; second = calls; whole = refl; first_told = refl; second_told = e }
in_two [] (y ∷ ys) zs e = let f : [] ≡ y ∷ (ys ++ zs) = e in cc (f)
in_two (c ∷ calls) (y ∷ ys) zs e =
    let both : outcome_of c.reply ∷ outcomes_of calls ≡ y ∷ (ys ++ zs) = e in
    let here : outcome_of c.reply ≡ y = cc (both) in
    let there : outcomes_of calls ≡ ys ++ zs = cc (both) in
    let rest = in_two calls ys zs there in
    record {
      first = c ∷ rest.first;
      second = rest.second;
      whole = ap (λ (cs : List CallMade). c ∷ cs) rest.whole;
      first_told = ap (λ (o : Outcome). o ∷ outcomes_of rest.first) here ∙ ap (λ (os : List Outcome). y ∷ os) rest.first_told;
      second_told = rest.second_told;
    }

-- none of these words says that a handle is open
abbrev NoneOpens : List Word → Type 0
NoneOpens [] = Unit {0}
NoneOpens (word ∷ words) = (word.node ≡ None) × NoneOpens words

done_opens_none : (op : Op) → NoneOpens (words_of_done op ++ [])
done_opens_none (Resolve path) = tt
done_opens_none (ResolveNoFollow path) = tt
done_opens_none (ReadLink path) = tt
done_opens_none (CreateFile path) = tt
done_opens_none (CreateDir path) = tt
done_opens_none (CreateLink path text) = tt
done_opens_none (RemoveFile path) = tt
done_opens_none (RemoveDir path) = tt
done_opens_none (Rename old new mode) = tt
done_opens_none (MkdirAll path) = tt
done_opens_none (RemoveAll path) = tt
done_opens_none (Single step) = tt
done_opens_none (Release standing) = (refl, tt)

words_open_none : (request : Option Request) (reply : Reply) → tells_opened (outcome_of reply) ≡ false → NoneOpens (words_of_call request reply ++ [])
words_open_none None reply none = tt
words_open_none (Some request) (opened handle names) none = absurd (true≢false none)
words_open_none (Some request) (link_text text) none = tt
words_open_none (Some request) done none = done_opens_none request.op
words_open_none (Some request) (count n) none = tt
words_open_none (Some request) (stepped answer) none = tt
words_open_none (Some request) (kept standing) none = tt
words_open_none (Some request) (fault error) none = tt

-- the call that was given up, by its outcome
record IsGivenUpCall (doing : Option CallView) (calls : List CallMade) : Type 0 where
  pub under_way : OneIfUnderWay doing calls
  pub closes : (root : Root) (standings : List (Option StandingObject)) → NoneOpens (all_words root standings calls)

given_up_call : (doing : Option CallView) (told : List Outcome) (calls : List CallMade) → LastOutcome doing told → outcomes_of calls ≡ told → IsGivenUpCall doing calls
given_up_call None told [] is e = record { under_way = refl; closes = λ root standings. tt }
given_up_call None told (c ∷ calls) is e = let some : outcome_of c.reply ∷ outcomes_of calls ≡ [] = e ∙ is in cc (some)
given_up_call (Some view) told [] is e = let one : [] ≡ is.0 ∷ [] = e ∙ is.1.0 in cc (one)
given_up_call (Some view) told (c ∷ []) is e =
    let one : outcome_of c.reply ∷ [] ≡ is.0 ∷ [] = e ∙ is.1.0 in
    let same : is.0 ≡ outcome_of c.reply = cc (one) in
    let none : tells_opened (outcome_of c.reply) ≡ false = subst (λ (o : Outcome). tells_opened o ≡ false) same is.1.1 in
    record { under_way = (c, refl); closes = λ root standings. words_open_none (request_of root standings c.planned) c.reply none }
given_up_call (Some view) told (c ∷ d ∷ calls) is e =
    let two : outcome_of c.reply ∷ outcome_of d.reply ∷ outcomes_of calls ≡ is.0 ∷ [] = e ∙ is.1.0 in cc (two)

words_of_both : (root : Root) (standings : List (Option StandingObject)) (calls others : List CallMade)
    → all_words root standings (calls ++ others) ≡ all_words root standings calls ++ all_words root (kept_after_all root.owner standings calls) others
words_of_both root standings [] others = refl
words_of_both root standings (c ∷ calls) others =
    let here = words_of_call (request_of root standings c.planned) c.reply in
    let next = kept_after root.owner standings c in
    ap (λ (ws : List Word). here ++ ws) (words_of_both root next calls others)
    ∙ sym (append_assoc here (all_words root next calls) (all_words root (kept_after_all root.owner next calls) others))

none_or : (words : List Word) (h : ℕ) → NoneOpens words → last_word None h words ≡ None
none_or [] h none = refl
none_or (word ∷ words) h none = on (word.handle == h) (none_or words h none.1)
  where
    on : (b : Bool) → last_word None h words ≡ None → last_word (if b then word.node else None) h words ≡ None
    on true rest = ap (λ (o : Option ℕ). last_word o h words) none.0 ∙ rest
    on false rest = rest

-- as it was before these words, or closed
still_or : (words : List Word) (o : Option ℕ) (h : ℕ) → NoneOpens words → (last_word o h words ≡ o) ⊎ (last_word o h words ≡ None)
still_or [] o h none = inl refl
still_or (word ∷ words) o h none = on (word.handle == h) (still_or words o h none.1)
  where
    on : (b : Bool) → (last_word o h words ≡ o) ⊎ (last_word o h words ≡ None)
        → (last_word (if b then word.node else o) h words ≡ o) ⊎ (last_word (if b then word.node else o) h words ≡ None)
    on true rest = inr (ap (λ (n : Option ℕ). last_word n h words) none.0 ∙ none_or words h none.1)
    on false rest = rest

-- what is held by the words of both is held by those of the first, or is none
no_more_by : (root : Root) (first second : List CallMade) (o now : Option ℕ) (h : ℕ) → NoneOpens (all_words root (kept_after_all root.owner [] first) second)
    → now ≡ last_word o h (all_words root [] (first ++ second)) → (now ≡ last_word o h (all_words root [] first)) ⊎ (now ≡ None)
no_more_by root first second o now h none e =
    let words = all_words root [] first in
    let others = all_words root (kept_after_all root.owner [] first) second in
    let both : now ≡ last_word (last_word o h words) h others =
    e ∙ (ap (λ (ws : List Word). last_word o h ws) (words_of_both root [] first second) ∙ words_on o h words others) in
    ⊎_elim (λ same. inl (both ∙ same)) (λ closed_so. inr (both ∙ closed_so)) (still_or others (last_word o h words) h none)

-- by the calls that a report tells of, which are those that the actor had begun
holds_by : (g : GivenUpWorld) (i : ℕ) (plan : ActorPlan) (seat : Seat) (begun : List Planned) (last : List Outcome) (calls : List CallMade)
    → plan.calls ≡ begun ++ seat.ledger.to_come → planned_of calls ≡ begun → AreMade (granted_root g i) [] calls → own_events i g.after.events ≡ events_of_calls i calls
    → ((h : ℕ) → held (tree_now g.after) i h ≡ last_word (held (opening_tree g) i h) h (all_words (granted_root g i) [] calls))
    → outcomes_of calls ≡ seat.ledger.outcomes ++ last → LastOutcome seat.doing last → HoldsAfter g i plan seat
holds_by g i plan seat begun last calls cut planned_so made own handles told is_last =
    let parts = in_two calls seat.ledger.outcomes last told in
    let given = given_up_call seat.doing last parts.second is_last parts.second_told in
    let held_so : (h : ℕ) → held (tree_now g.after) i h
    ≡ last_word (held (opening_tree g) i h) h (all_words (granted_root g i) [] (parts.first ++ parts.second)) =
    subst (λ (cs : List CallMade). (h : ℕ) → held (tree_now g.after) i h ≡ last_word (held (opening_tree g) i h) h (all_words (granted_root g i) [] cs))
    parts.whole handles in
    record {
      ended = parts.first;
      told = parts.first_told;
      given_up = parts.second;
      under_way = given.under_way;
      planned = subst (λ (cs : List CallMade). plan.calls ≡ planned_of cs ++ seat.ledger.to_come) parts.whole
          (subst (λ (ps : List Planned). plan.calls ≡ ps ++ seat.ledger.to_come) (sym planned_so) cut);
      made = subst (AreMade (granted_root g i) []) parts.whole made;
      own = subst (λ (cs : List CallMade). own_events i g.after.events ≡ events_of_calls i cs) parts.whole own;
      handles = held_so;
      no_more = λ h.
          no_more_by (granted_root g i) parts.first parts.second (held (opening_tree g) i h) (held (tree_now g.after) i h) h
          (given.closes (granted_root g i) (kept_after_all (granted_root g i).owner [] parts.first)) (held_so h);
    }

pub given_up_closes_all : GivenUpIsReported → CallsInOrder → HandlesAtEnd → GivenUpClosesAll
given_up_closes_all is_reported in_order at_end g i plan seat was planned_so there own =
    let r : IsReported g = is_reported g was in
    let report : WholeRun = report_on g r.plans r.world r.replies r.kept in
    let mine = r.each i plan seat planned_so there in
    let cut : ActorPlan = mine.0 in
    let is : IsCutPlan plan seat cut mine.1.1.0 = mine.1.1.1.1 in
    let of : ActorsCalls report i cut = in_order report i cut r.is_run mine.1.0 in
    let own_cut : ReleasesOwn (granted_root g i).owner cut.calls =
    own_front (granted_root g i).owner cut.calls seat.ledger.to_come (subst (ReleasesOwn (granted_root g i).owner) is.calls own) in
    holds_by g i plan seat cut.calls is.last of.calls is.calls of.planned of.made of.own
    (subst (λ (s : State). (h : ℕ) → held (tree_now g.after) i h ≡ last_word (held s i h) h (all_words (granted_root g i) [] of.calls)) r.opening
    (at_end report i cut of own_cut))
    (same_Some (outcomes_of of.calls) mine.1.1.0 (sym of.replies ∙ mine.1.1.1.0) ∙ is.outcomes) is.is_last
