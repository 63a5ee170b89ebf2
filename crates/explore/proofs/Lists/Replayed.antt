-- A world gone on from by turns: what is known once it has ended.
use Rattle.std.specs.Prelude.{◌≡◌, ◌<◌, ℕ, ◌+◌, List, [], ◌∷◌, ◌++◌, Bool, false, Result, Ok, Err, is_err, IfOk, OnOk, length, refl}
use Rattle.std.proofs.Common.{sym, ap, ◌∙◌, subst, get_or, take}
use Rattle.std.proofs.lemmas.Bool.{true≢false}
use Rattle.std.proofs.lemmas.List.{take_more}
use Rattle.tree_model.specs.declared.answer.Event.{Event}
use Rattle.tree_model.specs.State.{State}
use Rattle.handles.specs.Objects.{StandingObject}
use Rattle.race_core.specs.declared.report.Outcome.{Outcome}
use Rattle.race_core.specs.Turns.{Luck}
use Rattle.race_core.specs.Worlds.{WorldView, turn, Runs, RunsTo}
use Rattle.local_states.specs.Worlds.{full, after_turns, EndView, ReportsOn, IsEndOf}
use Rattle.local_states.specs.Outside.{outside_of}
use Rattle.local_states.specs.OutOfMemory.{EndsWell, replies_out_of_memory}
use Rattle.local_states.proofs.Lists.Runs.{replies_of_seats, actors_stay, turn_stays}
use Rattle.layered_search.proofs.Places.{ap_at, join}
use Rattle.explore.specs.Search.{IsOver, IsFull}
use Rattle.explore.proofs.OutOfMemory.Lucky.{runs_push, runs_full}
use Rattle.explore.proofs.Lists.SearchLaws.{over_rests, reported}

-- the turn at that place of the list
pub runs_turn_at : (w v u : WorldView) (turns : List ℕ) (k : ℕ) → k < length turns → Runs w (take k turns) v
    → (luck : Luck) × (u ≡ turn luck v (get_or turns k 0)) → Runs w (take (k + 1) turns) u
runs_turn_at w v u turns k lt run turned =
    subst (λ is. Runs w is u) (sym (take_more turns k 0 lt))
    (runs_push w v u (take k turns) (get_or turns k 0) turned.0 run turned.1)

pub turn_actors : (v u : WorldView) (i : ℕ) → (luck : Luck) × (u ≡ turn luck v i) → length u.seats ≡ length v.seats
turn_actors v u i turned = ap (λ (x : WorldView). length x.seats) turned.1 ∙ turn_stays turned.0 v i

-- what is said of a success holds where there was no error
pub at_ok : {T E P : Type 0} (r : Result T E) → is_err r ≡ false → OnOk r P → P
at_ok (Ok x) e h = h
at_ok (Err x) e h = absurd (true≢false e)

-- ---- a world that has ended, and its report tells of no want

module _ (world : WorldView) (tree : State) (events : List Event) (replies : List (List Outcome))
    (kept : List StandingObject)
    (ran : RunsTo world [] tree events replies kept) (none : replies_out_of_memory replies ≡ false) where
  -- one in which nobody had anything left to do is as it was
  end_is : IsOver world → ran.end ≡ world
  end_is over =
      let all = reported world [] tree events replies kept ran none in
      join ran.end (after_turns world ([] ++ all.0)) world all.1.0 (over_rests world ([] ++ all.0) over)

  pub is_end : (told : Bool) (outside : List ℕ) → outside ≡ outside_of told world → IsOver world
      → IsEndOf told world (record { tree = tree; replies = replies; outside = outside })
  is_end told outside counted over = record {
    report = subst (λ (v : WorldView). ReportsOn v tree replies) (end_is over) (record {
      is_tree = ran.reports.is_tree;
      are_events = refl;
      legal = ran.reports.legal;
      are_replies = ran.reports.are_replies;
      is_kept = refl;
    });
    outside = counted;
  }

  -- each actor has its replies
  pub replies_many : length replies ≡ length world.seats
  replies_many =
      let all = reported world [] tree events replies kept ran none in
      ap length ran.reports.are_replies
      ∙ (replies_of_seats ran.end.seats
      ∙ (ap_at (λ (v : WorldView). length v.seats) ran.end (after_turns world ([] ++ all.0)) all.1.0
      ∙ actors_stay world ([] ++ all.0)))

-- ---- a full list gone through

pub full_over : (w : WorldView) (is : List ℕ) → IsFull w is → IsOver (after_turns w is)
full_over w [] over = over
full_over w (i ∷ is) rest = full_over (turn full w i) is rest.1

-- what a run comes to, of which nobody tells that memory was wanting, is what the world after its turns comes to
pub run_ends : (w v : WorldView) (is : List ℕ) (said told : Bool) (end : EndView) → Runs w is v → EndsWell v
    → said ≡ told
    → (IsOver v → IsEndOf said v end) → IsOver (after_turns w is) → IsEndOf told (after_turns w is) end
run_ends w v is said told end run well same ends whole =
    let there : v ≡ after_turns w is = runs_full w v is run well in
    let over : IsOver v = subst (λ (u : WorldView). IsOver u) (sym there) whole in
    subst (λ b. IsEndOf b (after_turns w is) end) same (subst (λ (u : WorldView). IsEndOf said u end) there (ends over))

-- two things that are said of a success
pub ok_both : {T E : Type 0} {P Q R : T → Type 0} (r : Result T E) → ((x : T) → P x → Q x → R x) → IfOk r P → IfOk r Q
    → IfOk r R
ok_both (Ok x) on p q = on x p q
ok_both (Err e) on p q = p
