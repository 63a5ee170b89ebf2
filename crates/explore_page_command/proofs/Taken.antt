-- Each turn of a schedule that is written with an outcome is one of an actor.
use Rattle.std.specs.Borrow.{Bor}
use Rattle.std.proofs.Common.{◌≡◌, ◌≤◌, ◌<◌, ℕ, zero, suc, get_or, map, arith, Bool, true, false, List, [], ◌∷◌, ◌++◌, length, refl, sym, ap, ◌∙◌, subst}
use Rattle.std.specs.Prelude.{All, Some, None, nat_lt, slice_get, if◌then◌else◌}
use Rattle.std.proofs.lemmas.Bool.{ltb-true}
use Rattle.std.proofs.lemmas.List.Elements.{All-nil, All-cons, All-append, All-head, All-tail, All-filter, All-take}
use Rattle.explore.specs.Explored.{ClassView}
use Rattle.explore.specs.Opened.{opened_world}
use Rattle.explore_parts.specs.declared.asked.Asked.{Asked}
use Rattle.explore_command.specs.Classes.{AreTold}
use Rattle.explore_command.specs.Surveyed.{scope_asked, are_judged, IsSurvey, outcomes_of}
use Rattle.explore_command.proofs.Replayed.{written_lead_there}
use Rattle.explore_page_command.specs.Played.{AreTaken, chosen}
use Rattle.explore_page_command.specs.declared.chosen.TheConstants.{PLAYED_MAX}
use Rattle.explore_page_command.proofs.Opened.{opened}
use Rattle.outcome_text.specs.declared.survey.Told.{Told}
use Rattle.outcome_text.specs.Conditions.{counts}
use Rattle.outcome_text.specs.Order.{comes_before, put, put_all}
use Rattle.outcome_text.specs.Schedule.{without_tail}
use Rattle.outcome_text.specs.Survey.{is_new, new_among, new_ones}
use Rattle.race_core.specs.Opening.{Granted}
use Rattle.race_core.specs.Worlds.{WorldView, first_beyond}
use Rattle.scripts.specs.Scenario.{Said, IsPlayable}
use Rattle.scripts.specs.Writing.{tree_of}
use Rattle.tree_model.specs.State.{State}
use Rattle.run_command.proofs.Replays.{said_roots, length-seats_of}

-- ---- a list whose first number beyond is none

below : (n : ℕ) (is : List ℕ) → first_beyond n is ≡ None → All (λ i. i < n) is
below n [] e = All-nil (λ i. i < n)
below n (i ∷ is) e = by (below n is) (nat_lt i n) refl e
  where
    by : (first_beyond n is ≡ None → All (λ j. j < n) is) → (b : Bool) → nat_lt i n ≡ b → (if b then first_beyond n is else Some i) ≡ None → All (λ j. j < n) (i ∷ is)
    by rest true less none = All-cons (λ j. j < n) i is (ltb-true i n less) (rest none)
    by rest false less none = cc (none)

-- ---- outcomes put in order, some of them, and those that are new

put_keeps : (P : Told → Type 0) (told : Told) (all : List Told) → P told → All P all → All P (put told all)
put_keeps P told [] p ps = All-cons P told [] p (All-nil P)
put_keeps P told (other ∷ others) p ps = by (put_keeps P told others p (All-tail P other others ps)) (comes_before told other)
  where
    by : All P (put told others) → (b : Bool) → All P (if b then told ∷ other ∷ others else other ∷ put told others)
    by rest true = All-cons P told (other ∷ others) p ps
    by rest false = All-cons P other (put told others) (All-head P other others ps) rest

put_all_keeps : (P : Told → Type 0) (all ordered : List Told) → All P all → All P ordered → All P (put_all all ordered)
put_all_keeps P [] ordered ps qs = qs
put_all_keeps P (told ∷ all) ordered ps qs =
    put_keeps P told (put_all all ordered) (All-head P told all ps) (put_all_keeps P all ordered (All-tail P told all ps) qs)

new_keeps : (P : Told → Type 0) (earlier all : List Told) → All P all → All P (new_among earlier all)
new_keeps P earlier [] ps = All-nil P
new_keeps P earlier (told ∷ others) ps =
    All-append P (if is_new earlier told then told ∷ [] else []) (new_among (earlier ++ told ∷ []) others) (by (is_new earlier told))
    (new_keeps P (earlier ++ told ∷ []) others (All-tail P told others ps))
  where
    by : (b : Bool) → All P (if b then told ∷ [] else [])
    by true = All-cons P told [] (All-head P told others ps) (All-nil P)
    by false = All-nil P

pub chosen_keeps : (P : Told → Type 0) (all : List Told) → All P all → All P (chosen all)
chosen_keeps P all ps = All-take P PLAYED_MAX (new_ones all) (new_keeps P [] all ps)

-- ---- what is told of classes

told_taken : (judged : Bool) (named : List ℕ) (opening : State) (actors n : ℕ) (classes : List ClassView) (all : List Told) → AreTold judged named opening actors classes all
    → ((k : ℕ) (c : ClassView) → slice_get classes k ≡ Some c → All (λ i. i < n) (without_tail c.least.turns)) → All (AreTaken n) all
told_taken judged named opening actors n [] [] are each = All-nil (AreTaken n)
told_taken judged named opening actors n [] (told ∷ all) are each = absurd are
told_taken judged named opening actors n (c ∷ classes) [] are each = absurd are
told_taken judged named opening actors n (c ∷ classes) (told ∷ all) are each =
    All-cons (AreTaken n) told all (subst (λ (is : List ℕ). All (λ i. i < n) (without_tail is)) (sym are.0.least) (each 0 c refl))
    (told_taken judged named opening actors n classes all are.1 (λ k d e. each (suc k) d e))

-- the world has a seat for each actor, and memory
record IsSeated (said : Said) : Type 0 where
  pub seats : length (opened_world (tree_of said) said.plans said.lines).seats ≡ length said.plans
  pub memory : (opened_world (tree_of said) said.plans said.lines).spent ≡ false

seated : (said : Said) → IsPlayable said → length said.plans ≤ said.lines → IsSeated said
seated said playable enough =
    let all = said_roots said playable in
    let made = opened said playable enough in
    let same : all.roots ≡ made.roots = cc (all.are, made.are_granted) in
    record {
      seats =
          ap (λ (w : WorldView). length w.seats) made.is ∙ length-seats_of made.roots.ledgers
          ∙ ap (λ (g : Granted). length g.ledgers) (sym same) ∙ all.seated;
      memory = ap (λ (w : WorldView). w.spent) made.is;
    }

-- ---- the outcomes of a survey

pub outcomes_taken : (asked : Asked) (said : Said) (holds : Bool) (text : List ℕ) (survey : IsSurvey asked (tree_of said) said.plans said.lines holds text)
    → IsPlayable said → length said.plans ≤ said.lines → All (AreTaken (length said.plans)) (outcomes_of survey)
outcomes_taken asked said holds text survey playable enough =
    All-filter (counts asked.properties.items) (AreTaken n) (put_all survey.telling.all [])
    (put_all_keeps (AreTaken n) survey.telling.all []
    (told_taken (are_judged asked) asked.named.items (tree_of said) n n survey.classes survey.telling.all survey.telling.told each) (All-nil (AreTaken n)))
  where
    n : ℕ
    n = length said.plans

    w : WorldView
    w = opened_world (tree_of said) said.plans said.lines

    each : (k : ℕ) (c : ClassView) → slice_get survey.classes k ≡ Some c → All (λ i. i < n) (without_tail c.least.turns)
    each k c there =
        let made = seated said playable enough in
        let ran = written_lead_there w (scope_asked asked) c.least made.memory (survey.explored.each k c there).ending in
        subst (λ (m : ℕ). All (λ i. i < m) (without_tail c.least.turns)) made.seats (below (length w.seats) (without_tail c.least.turns) ran.within)

-- ---- one of those that are lent

pub taken_at : (n : ℕ) (some : List (Bor Told)) (i : ℕ) (x : Bor Told) → i < length some → x ≡ get_or some i x → All (AreTaken n) (map (λ (told : Bor Told). told.now) some)
    → AreTaken n x.now
taken_at n [] i x less is all = absurd (omega (arith, less))
taken_at n (y ∷ ys) zero x less is all =
    subst (λ (z : Bor Told). AreTaken n z.now) (sym is) (All-head (AreTaken n) y.now (map (λ (told : Bor Told). told.now) ys) all)
taken_at n (y ∷ ys) (suc i) x less is all =
    taken_at n ys i x (omega (arith, less)) is (All-tail (AreTaken n) y.now (map (λ (told : Bor Told). told.now) ys) all)
