-- Turns of those who have nothing left to do change nothing; and closed sets of lists stand for all.
use Rattle.std.specs.Prelude.{◌≡◌, ℕ, List, [], ◌∷◌, ◌++◌, Bool, true, false, length, refl}
use Rattle.std.proofs.Common.{sym, ap, ◌∙◌, subst}
use Rattle.tree_model.specs.declared.answer.Event.{Event}
use Rattle.tree_model.specs.State.{State}
use Rattle.race_core.specs.declared.report.Outcome.{Outcome}
use Rattle.handles.specs.Objects.{StandingObject}
use Rattle.race_core.specs.Book.{tree_now}
use Rattle.race_core.specs.Worlds.{WorldView, turn, is_busy_at, ledgers_in, replies_in, RunsTo, numbers_below}
use Rattle.race_core.proofs.OneEnd.{idle_turn_by}
use Rattle.local_states.specs.Worlds.{full, after_turns, worlds}
use Rattle.local_states.specs.OutOfMemory.{replies_out_of_memory}
use Rattle.layered_search.proofs.Lists.SearchLaws as search
use Rattle.local_states.proofs.Worlds.System.{worlds_are_system}
use Rattle.explore.specs.Search.{IsOver, IsFull, ChosenListsStandForAll, ReportsAreOfFullLists, FullListsAreReported}
use Rattle.local_states.proofs.OutOfMemory.OutOfMemoryWorlds.{runs_are_full}
use Rattle.layered_search.proofs.Places.{ap_at, join}
use Rattle.local_states.proofs.Lists.Runs.{runs_append, ends_run, over_at}

-- ---- lists that are chosen

pub chosen_lists_stand : ChosenListsStandForAll
chosen_lists_stand told w chosen closed is whole =
    search.chosen_lists_stand (worlds told w) (worlds_are_system told w) chosen closed is whole

-- ---- idle turns

pub over_rests : (w : WorldView) (is : List ℕ) → IsOver w → after_turns w is ≡ w
over_rests w [] over = refl
over_rests w (i ∷ is) over =
    join (after_turns (turn full w i) is) (after_turns w is) w
    (ap_at (λ (u : WorldView). after_turns u is) (turn full w i) w (idle_turn_by full w i (over i)))
    (over_rests w is over)

full_rests : (w : WorldView) (is js : List ℕ) → IsFull w is → after_turns w (is ++ js) ≡ after_turns w is
full_rests w [] js over = over_rests w js over
full_rests w (i ∷ is) js rest = full_rests (turn full w i) is js rest.1

-- any list after which nobody has anything left to do comes to what a full one comes to
tight : (w : WorldView) (is : List ℕ) → IsOver (after_turns w is)
    → (js : List ℕ) × (IsFull w js × (after_turns w is ≡ after_turns w js))
tight w [] over = ([], (over, refl))
tight w (i ∷ is) over = by (λ u rest. tight u is rest) (is_busy_at w.seats i) refl
  where
    by : ((u : WorldView) → IsOver (after_turns u is)
        → (js : List ℕ) × (IsFull u js × (after_turns u is ≡ after_turns u js)))
        → (b : Bool) → is_busy_at w.seats i ≡ b
        → (js : List ℕ) × (IsFull w js × (after_turns (turn full w i) is ≡ after_turns w js))
    by others true e = let rest = others (turn full w i) over in (i ∷ rest.0, ((e, rest.1.0), rest.1.1))
    by others false e =
        let moved : after_turns (turn full w i) is ≡ after_turns w is =
        ap_at (λ (u : WorldView). after_turns u is) (turn full w i) w (idle_turn_by full w i e) in
        let rest = others w (subst (λ (u : WorldView). IsOver u) moved over) in (
          rest.0,
          (
            rest.1.0,
            join (after_turns (turn full w i) is) (after_turns w is)
                (after_turns w rest.0) moved rest.1.1,
          ),
        )

-- ---- runs to the end

-- what a report is of: the turns of the schedule and more, with memory for all
pub reported : (w : WorldView) (schedule : List ℕ) (tree : State) (events : List Event) (replies : List (List Outcome))
    (kept : List StandingObject)
    → (ran : RunsTo w schedule tree events replies kept) → replies_out_of_memory replies ≡ false
    → (js : List ℕ) × ((ran.end ≡ after_turns w (schedule ++ js)) × IsOver (after_turns w (schedule ++ js)))
reported w schedule tree events replies kept ran none =
    let rest = ends_run ran.runs.middle ran.end (numbers_below (length w.seats)) ran.runs.rest in
    let whole = runs_append w ran.runs.middle ran.end schedule rest.0 ran.runs.scheduled rest.1 in
    let quiet : replies_out_of_memory (replies_in (ledgers_in ran.end.seats)) ≡ false =
    sym (ap replies_out_of_memory ran.reports.are_replies) ∙ none in
    let is = runs_are_full w ran.end (schedule ++ rest.0) whole ran.over quiet in
    (rest.0, (is, subst (λ (u : WorldView). IsOver u) is (λ i. over_at ran.end.seats i ran.over)))

pub reports_are_full : ReportsAreOfFullLists
reports_are_full w schedule tree events replies kept ran none =
    let all = reported w schedule tree events replies kept ran none in
    let short = tight w (schedule ++ all.0) all.1.1 in
    let end : ran.end ≡ after_turns w short.0 =
    join ran.end (after_turns w (schedule ++ all.0)) (after_turns w short.0) all.1.0 short.1.1 in (
      short.0,
      (
        short.1.0,
        (
          ran.reports.is_tree ∙ ap_at (λ (u : WorldView). tree_now u.book) ran.end (after_turns w short.0) end,
          ran.reports.are_replies
              ∙ ap_at (λ (u : WorldView). replies_in (ledgers_in u.seats)) ran.end (after_turns w short.0) end,
        ),
      ),
    )

pub full_lists_are_reported : FullListsAreReported
full_lists_are_reported w is tree events replies kept whole ran none =
    let all = reported w is tree events replies kept ran none in
    let end : ran.end ≡ after_turns w is =
    join ran.end (after_turns w (is ++ all.0)) (after_turns w is) all.1.0 (full_rests w is all.0 whole) in (
      ran.reports.is_tree ∙ ap_at (λ (u : WorldView). tree_now u.book) ran.end (after_turns w is) end,
      ran.reports.are_replies
          ∙ ap_at (λ (u : WorldView). replies_in (ledgers_in u.seats)) ran.end (after_turns w is) end,
    )
