-- Parts of one question without a gap among them are all: each list that is asked for begins with just one.
use Rattle.std.specs.Prelude.{◌≡◌, ◌<◌, ◌++◌, ℕ, true, List, [], ◌∷◌, length, take, nat_lt, refl}
use Rattle.std.proofs.Common.{◌∙◌, sym, ap, subst, ⊎_elim, arith, drop}
use Rattle.std.proofs.lemmas.Bool.{true≢false}
use Rattle.std.proofs.lemmas.List.{append-nil, append_assoc, take-append-drop}
use Rattle.local_states.specs.Worlds.{after_turns}
use Rattle.explore.specs.Explored.{Scope, IsAsked}
use Rattle.explore.specs.Search.{IsFull}
use Rattle.explore.specs.Opened.{opened_world}
use Rattle.local_states.proofs.Lists.Runs.{actors_stay}
use Rattle.local_states.proofs.Worlds.System.{busy_within}
use Rattle.explore_parts.specs.declared.asked.Asked.{Asked}
use Rattle.explore_command.specs.Surveyed.{scope_asked}
use Rattle.explore_command.specs.Part.{IsBarred, HasLists}
use Rattle.race_core.specs.declared.plan.ActorPlan.{ActorPlan}
use Rattle.race_core.specs.Worlds.{WorldView}
use Rattle.schedule_graph.specs.Counted.{IsAmong}
use Rattle.outcome_text.specs.declared.part.Part.{Part}
use Rattle.outcome_text.specs.Merge.{are_apart, has_lists, AreAll}
use Rattle.tree_model.specs.State.{State}
use Rattle.further_world_laws.specs.Parts.{Begins, BeginsWithOne}
use Rattle.merge_laws.specs.Merged.{IsPartOf, AreOfOneQuestion, IsSeated, PartsWithoutGapsAreAll, begins_in}
use Rattle.merge_laws.proofs.Barred.{busy_there, none_begins}
use Rattle.merge_laws.proofs.NoGaps.{MightHave, begins_with_one, each_once, found}
use Rattle.further_world_laws.proofs.Beginnings.{ends_there}
use Rattle.tree_model.proofs.Places.{slice_get-last}
use Rattle.step_resolver.proofs.Meaning.PlainResolution.{slice_get-some}

-- ---- full lists

none_first : (more rest : List ℕ) → more ++ rest ≡ [] → more ≡ []
none_first [] rest e = refl
none_first (x ∷ more) rest e = absurd (no_end e)
  where
    no_end : x ∷ (more ++ rest) ≡ [] → ⊥
    no_end p = absurd (omega (arith, ap length p))

no_list : (lists : ℕ) → nat_lt 0 lists ≡ true → lists ≡ 0 → ⊥
no_list lists some none = true≢false (sym some ∙ ap (nat_lt 0) none)

module _ (asked : Asked) (tree : State) (plans : List ActorPlan) (lines : ℕ) (seats : IsSeated tree plans lines) where
  abbrev world : WorldView
  world = opened_world tree plans lines

  -- ---- turns that can be taken

  -- he is one of the actors, and nothing says that the turn after these can't be his
  abbrev Can : List ℕ → ℕ → Type 0
  Can before actor = (actor < length plans)
      × ((scope : Scope) → asked.limits.scope.cuts ≡ scope.cuts → IsBarred world scope (before ++ actor ∷ [])
      → ⊥)

  each_can : (is : List ℕ) → IsAsked world (scope_asked asked) is → (before rest : List ℕ) (actor : ℕ)
      → is ≡ before ++ actor ∷ rest → Can before actor
  each_can is whole before rest actor e = (
    subst (λ (n : ℕ). actor < n) (actors_stay world (take (length before) (before ++ actor ∷ [])) ∙ sym seats)
        (busy_within (after_turns world (take (length before) (before ++ actor ∷ []))).seats actor
        (busy_there world (before ++ actor ∷ []) rest (length before) actor
        (subst (λ (js : List ℕ). IsFull world js) joined whole.whole) (slice_get-last before actor))),
    (λ scope bound barred. none_begins world (scope_asked asked) scope (before ++ actor ∷ []) bound barred is
        (whole, (rest, joined))),
  )
    where
      joined : is ≡ (before ++ actor ∷ []) ++ rest
      joined = e ∙ sym (append_assoc before (actor ∷ []) rest)

  -- ---- a part that has lists

  module _ (part : Part) (is : IsPartOf asked tree plans lines part) (some : has_lists part ≡ true) where
    abbrev own : Asked
    own = is.0

    has : HasLists own tree plans lines part
    has = ⊎_elim (λ h. h) (λ none. absurd (no_list part.lists some none.1.lists)) is.1.1.told

    -- one of them
    one : (js : List ℕ) × (IsAsked world (scope_asked own) js × Begins part.begin.items js)
    one =
        let at = has.explored.longest.reached in
        (at.0, (at.1.0, subst (λ (begin : List ℕ). Begins begin at.0) (sym is.1.1.begin) at.1.0.begins))

    -- who might have had a turn is told of each turn
    far : length part.might.items ≡ length part.begin.items
    far =
        let begin = own.limits.scope.begin.items in
        let turns = length part.might.items in
        ⊎_elim (λ e. e ∙ ap length (sym is.1.1.begin))
        (λ barred.
        absurd
        (none_begins world (scope_asked own) (scope_asked own) (take turns begin) refl barred one.0
        (one.1.0, (drop turns begin ++ one.1.1.0, first))))
        is.1.1.far
      where
        first : one.0 ≡ take
            (length part.might.items)
            own.limits.scope.begin.items ++ (drop
            (length part.might.items) own.limits.scope.begin.items ++ one.1.1.0)
        first =
            one.1.1.1
            ∙ (ap (λ (begin : List ℕ). begin ++ one.1.1.0)
            (is.1.1.begin ∙ sym (take-append-drop (length part.might.items) own.limits.scope.begin.items))
            ∙ append_assoc (take (length part.might.items) own.limits.scope.begin.items)
            (drop (length part.might.items) own.limits.scope.begin.items) one.1.1.0)

    -- whoever can have a turn might have had it
    tells : (at actor : ℕ) → at < length part.begin.items → Can (take at part.begin.items) actor
        → MightHave part at actor
    tells at actor short can =
        let there = slice_get-some part.might.items at (subst (λ (n : ℕ). at < n) (sym far) short) in
        ⊎_elim (λ among. (there.0, (there.1, among)))
        (λ barred.
        absurd
        (can.1 (scope_asked own) is.1.0.scope.cuts
        (subst (λ (begin : List ℕ). IsBarred world (scope_asked own) (take at begin ++ actor ∷ []))
        (sym is.1.1.begin) barred)))
        (is.1.1.might at there.0 there.1 actor can.0)

    -- it doesn't go beyond a full list
    ends : (js : List ℕ) → IsFull world js → Begins js part.begin.items → part.begin.items ≡ js
    ends js whole begins =
        let longer : one.0 ≡ js ++ (begins.0 ++ one.1.1.0) =
        one.1.1.1 ∙ (ap (λ (begin : List ℕ). begin ++ one.1.1.0) begins.1 ∙ append_assoc js begins.0 one.1.1.0) in
        let none : begins.0 ≡ [] =
        none_first begins.0 one.1.1.0
        (ends_there world js (begins.0 ++ one.1.1.0) whole
        (subst (λ (is : List ℕ). IsFull world is) longer one.1.0.whole)) in
        begins.1 ∙ (ap (λ (rest : List ℕ). js ++ rest) none ∙ append-nil js)

  -- ---- parts without gaps

  module _ (parts : List Part) (each : AreOfOneQuestion asked tree plans lines parts) (apart : are_apart parts ≡ true)
      (all : AreAll parts) where
    covers : (is : List ℕ) → IsAsked world (scope_asked asked) is
        → BeginsWithOne (λ begin. IsAmong begin (begins_in parts)) is
    covers is whole =
        begins_with_one parts Can apart all (λ part h some. tells part (each part h) some) is (each_can is whole)
        (λ part h some. ends part (each part h) some is whole.whole)

    begins_whole : asked.limits.scope.begin.items ≡ []
    begins_whole = let at = found has_lists parts all.some in (each at.0 at.1.0).1.0.scope.begin

pub parts_without_gaps_are_all : PartsWithoutGapsAreAll
parts_without_gaps_are_all asked tree plans lines parts seats each apart all = record {
  whole = begins_whole asked tree plans lines seats parts each apart all;
  each = each;
  cover = covers asked tree plans lines seats parts each apart all;
  once = each_once parts apart;
}
