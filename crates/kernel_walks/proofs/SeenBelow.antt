-- A walk whose last question had some names as its answer: all that led to the question is as in each walk.
use Rattle.std.proofs.Common.{◌≡◌, ℕ, suc, Bool, true, false, List, [], ◌∷◌, ◌++◌, refl, sym, ap, ◌∙◌, subst, inl, inr, append-nil, le_refl}
use Rattle.std.specs.Prelude.{if◌then◌else◌, reverse, Option, Some, None}
use Rattle.path_text.specs.declared.errno.Errno.{Errno}
use Rattle.path_text.specs.declared.errno.Errno.TheVariants.{NoMemory, CrossRoot}
use Rattle.tree_model.specs.declared.answer.Answer.{Answer}
use Rattle.tree_model.specs.declared.answer.Answer.TheVariants.{Names}
use Rattle.tree_model.specs.StepWith.{StepWith}
use Rattle.tree_model.specs.declared.step.StepOf.TheVariants.{NameBelow}
use Rattle.tree_model.specs.State.{Stands, names_below}
use Rattle.tree_model.specs.Steps.{outcome, shows, held}
use Rattle.tree_model.proofs.PlaceLaws.{below_is}
use Rattle.tree_model.proofs.Standing.{Stands-names_below}
use Rattle.walk_plan.specs.Plan.{leads_out}
use Rattle.step_resolver.specs.Asked.{AskedPart}
use Rattle.step_resolver.specs.Failures.{TellsError, TellsWant, MetRefusal}
use Rattle.step_resolver.specs.Footprint.{AllLeftAlone, ground, IsMeant}
use Rattle.step_resolver.specs.Headline.{whole_meaning}
use Rattle.step_resolver.specs.Meaning.{Meant, LINKS_MAX, fails, path_means, reads_of}
use Rattle.step_resolver.specs.Order.{Way, Handle, Line, answered, no_room, not_made, IsWant, ending, root_itself, holds, todo, Turn, more, found, partial, failed, begins, goes_on, take, due, LeadsTo}
use Rattle.step_resolver.specs.Trail.{Spot, Trail}
use Rattle.step_resolver.specs.WalkHistory.{WalkInHistory, IsWalkInHistory, begin_of, state_at, timeline, parts_of_walk, start}
use Rattle.step_resolver.specs.WalkHistory.{end_of as end_state}
use Rattle.step_resolver.proofs.Trail.Joined.{own_earlier}
use Rattle.step_resolver.proofs.Underway.WalkInvariant.{Lived, StepAt, Happens, held_at, root_open, spot_at, trail_at, GoodEnd, Good}
use Rattle.step_resolver.proofs.Underway.NextPart.{goes_on_good}
use Rattle.step_resolver.proofs.Underway.AfterDupAndClose.{not_made_good}
use Rattle.step_resolver.proofs.Underway.HandlesHeld.{kept_on}
use Rattle.step_resolver.proofs.Underway.LegalHistory.{begins_as_tree, lived, lines_happen}
use Rattle.step_resolver.proofs.Underway.OwnSteps.{only_tell, own_events_leave_nodes}
use Rattle.step_resolver.proofs.Ends.EachEnd.{take_good, going_first, handles_at_first, wants_told}
use Rattle.step_resolver.proofs.Ends.EveryWalk.{tree_laws}
use Rattle.step_resolver.proofs.Ends.EntriesLeftAlone.{steady, root_is_no_child}
use Rattle.step_resolver.proofs.Ends.TrailsAndMeaning.{Fits, AllAlone, Followed, follow, stands_on}
use Rattle.step_resolver.proofs.Ends.WholeMeaning.{setting, all_alone}
use Rattle.kernel_walks.specs.SeenBelow.{OpensBelow, MeansBelow, SeenBelow}

-- ---- what is so where the last question is asked

module _ {w : WalkInHistory} (lived : Lived w) where
  record GoodLater (mid : Turn) (tail : List Line) : Type 0 where
    later : ℕ
    good : Good w later mid
    happens : Happens w later tail

  good_after : (front tail : List Line) (now : ℕ) (turn mid : Turn) → Good w now turn → Happens w now (front ++ tail) → LeadsTo w.way turn front mid
      → ((error : Errno) → IsWant error → TellsWant error (front ++ tail) → TellsError w error)
      → ((step : StepWith ℕ) → MetRefusal step (front ++ tail) → MetRefusal step w.lines) → GoodLater mid tail
  good_after [] tail now turn mid good happens leads wants mets = record { later = now; good = subst (Good w now) leads good; happens = happens }
  good_after (answered step answer ∷ front) tail now (more walk) mid good happens leads wants mets =
      good_after front tail (suc happens.0) (take w.way true walk answer) mid
      (take_good lived true (λ e. cc (e)) now happens.0 walk good answer (subst (λ s. StepAt w now happens.0 s answer) leads.0 happens.1.0)
      (λ e. mets (due w.way walk) (inl (leads.0, e))))
      happens.1.1 leads.1 (λ error is want. wants error is (inr want)) (λ s m. mets s (inr m))
  good_after (no_room step answer ∷ front) tail now (more walk) mid good happens leads wants mets =
      good_after front tail (suc happens.0) (take w.way false walk answer) mid
      (take_good lived false (λ e. wants NoMemory (inl refl) (inl refl)) now happens.0 walk good answer (subst (λ s. StepAt w now happens.0 s answer) leads.0 happens.1.0)
      (λ e. mets (due w.way walk) (inl (leads.0, e))))
      happens.1.1 leads.1 (λ error is want. wants error is (inr want)) (λ s m. mets s (inr m))
  good_after (not_made error ∷ front) tail now (more walk) mid good happens leads wants mets =
      good_after front tail now (take w.way true walk _) mid
      (not_made_good lived now error leads.0.0 (wants error leads.0.0 (inl refl)) walk leads.0.1 good)
      happens leads.1 (λ cause is want. wants cause is (inr want)) (λ s m. mets s (inr m))
  good_after (line ∷ front) tail now (found handle names) mid good happens leads wants mets = absurd leads
  good_after (line ∷ front) tail now (partial handle names rest) mid good happens leads wants mets = absurd leads
  good_after (line ∷ front) tail now (failed error) mid good happens leads wants mets = absurd leads

  begins_good : leads_out w.path.absolute w.way.flags ≡ false → Good w 0 (begins w.way w.path)
  begins_good inside =
      subst (Good w 0) (sym (ap (λ b. if b then failed CrossRoot else goes_on w.way root_itself (todo [] (parts_of_walk w) LINKS_MAX)) inside))
      (goes_on_good lived 0 root_itself [] (parts_of_walk w) LINKS_MAX (going_first lived) tt (handles_at_first lived))

  -- at the question the handle stands below the root, whatever names are told
  module _ (now t : ℕ) (handle : Handle) (names others : List (List ℕ)) (good : GoodEnd w now (holds handle names) [])
      (is : StepAt w now t (NameBelow w.way.root handle.number) (Names others)) where
    outcome_is : outcome (state_at w t) w.actor (NameBelow w.way.root handle.number) ≡ shows (state_at w t) (names_below (state_at w t).nodes w.root handle.node)
    outcome_is = below_is (state_at w t) w.actor w.way.root handle.number w.root handle.node
        (is.kept w.way.root ∙ root_open lived good.handles) (is.kept handle.number ∙ good.position_held.is_open)

    answer_is : (o : Option (List (List ℕ))) → names_below (state_at w t).nodes w.root handle.node ≡ o → Names others ≡ (shows (state_at w t) o).answer
    answer_is o q = is.told ∙ ap (λ r. r.answer) (outcome_is ∙ ap (shows (state_at w t)) q)

    abbrev to : Spot
    to = spot_at w (holds handle names) good.links good.m

    nodes_kept : (o : Option (List (List ℕ))) → (shows (state_at w t) o).after ≡ state_at w t
    nodes_kept None = refl
    nodes_kept (Some told) = refl

    kept : (h : ℕ) → held_at w (suc t) h ≡ held_at w now h
    kept = kept_on is (ap (λ r. r.after) outcome_is ∙ nodes_kept (names_below (state_at w t).nodes w.root handle.node))

    -- where it stands at the names passed, those are told
    names_so : Stands (state_at w t).nodes w.root handle.node names → others ≡ reverse names
    names_so stands = by (answer_is (Some names) (lived.below t handle.node names stands))
      where
        by : Names others ≡ (shows (state_at w t) (Some names)).answer → others ≡ reverse names
        by e = cc (e)

    module _ (end : (h : ℕ) → held (end_state w) w.actor h ≡ held_at w (suc t) h) where
      opens_at : (told : List (List ℕ)) → names_below (state_at w t).nodes w.root handle.node ≡ Some told → OpensBelow w handle names
      opens_at told q = record {
        to = to;
        trail = subst (λ ps. Trail (timeline w) ps (start w) to no_part) (sym (good.going.parts ∙ append-nil good.going.taken)) (trail_at good.going);
        node = refl;
        passed = refl;
        when = t;
        stood = record {
          at = own_earlier (timeline w) good.past is.at;
          names = told;
          stands = Stands-names_below (state_at w t).nodes w.root handle.node told q;
        };
        asked = is.event ∙ ap (λ (answer : Answer). Some (record { actor = w.actor; step = NameBelow w.way.root handle.number; answer = answer })) (answer_is (Some told) q);
        new = record {
          is_open = end handle.number ∙ kept handle.number ∙ good.position_held.is_open;
          fresh = good.handles.fresh.0;
          others = λ h ne. end h ∙ kept h ∙ good.handles.others h (ne, tt);
          what = good.position_held.what;
          is_what = good.position_held.is_what;
          kind = good.position_held.kind;
        };
      }
        where
          no_part : Option AskedPart
          no_part = None

      opens_by : (o : Option (List (List ℕ))) → names_below (state_at w t).nodes w.root handle.node ≡ o → OpensBelow w handle names
      opens_by None q = cc (answer_is None q)
      opens_by (Some told) q = opens_at told q

      opens_so : OpensBelow w handle names
      opens_so = opens_by (names_below (state_at w t).nodes w.root handle.node) refl

-- ---- a walk whose last question is answered so

-- the question where the object stands, with these names
abbrev pub asks : Way → Handle → List (List ℕ) → Line
asks way handle names = answered (NameBelow way.root handle.number) (Names names)

-- the line is that question, whether its answer found room or not
abbrev pub IsQuestion : Way → Handle → List (List ℕ) → Line → Type 0
IsQuestion way handle names (answered step answer) = (step ≡ NameBelow way.root handle.number) × (answer ≡ Names names)
IsQuestion way handle names (no_room step answer) = (step ≡ NameBelow way.root handle.number) × (answer ≡ Names names)
IsQuestion way handle names (not_made error) = ⊥

module _ (w : WalkInHistory) (is : IsWalkInHistory w) (front : List Line) (last : Line) (handle : Handle) (names others : List (List ℕ))
    (lines : w.lines ≡ front ++ last ∷ []) (question : IsQuestion w.way handle others last)
    (leads : LeadsTo w.way (begins w.way w.path) front (more (ending handle names []))) where
  abbrev begun : Bool → Turn
  begun b = if b then failed CrossRoot else goes_on w.way root_itself (todo [] (parts_of_walk w) LINKS_MAX)

  none_after_failure : (ls : List Line) → LeadsTo w.way (failed CrossRoot) ls (more (ending handle names [])) → ⊥
  none_after_failure [] h = cc (h)
  none_after_failure (line ∷ ls) h = h

  -- an absolute path under RESOLVE_BENEATH is led nowhere
  inside : leads_out w.path.absolute w.way.flags ≡ false
  inside = on (leads_out w.path.absolute w.way.flags) refl
    where
      on : (b : Bool) → leads_out w.path.absolute w.way.flags ≡ b → b ≡ false
      on true e = absurd (none_after_failure front (subst (λ turn. LeadsTo w.way turn front (more (ending handle names []))) (ap begun e) leads))
      on false e = refl

  all_lived : Lived w
  all_lived = lived tree_laws w is

  at_question : GoodLater all_lived (more (ending handle names [])) (last ∷ [])
  at_question = good_after all_lived front (last ∷ []) 0 (begins w.way w.path) (more (ending handle names []))
      (begins_good all_lived inside) (subst (Happens w 0) lines (lines_happen tree_laws w is)) leads
      (λ error is_want want. wants_told all_lived error is_want (subst (TellsWant error) (sym lines) want))
      (λ step met. subst (MetRefusal step) (sym lines) met)

  -- the event of the question, after which nothing comes
  record Asked (m : ℕ) : Type 0 where
    t : ℕ
    at : StepAt w m t (NameBelow w.way.root handle.number) (Names others)
    rests : (h : ℕ) → held (end_state w) w.actor h ≡ held_at w (suc t) h

  asked_so : (m t : ℕ) (step : StepWith ℕ) (answer : Answer) → (step ≡ NameBelow w.way.root handle.number) × (answer ≡ Names others) → StepAt w m t step answer
      → ((h : ℕ) → held (end_state w) w.actor h ≡ held_at w (suc t) h) → Asked m
  asked_so m t step answer same at rests = record {
    t = t;
    at = subst (λ (s : StepWith ℕ). StepAt w m t s (Names others)) same.0 (subst (λ (a : Answer). StepAt w m t step a) same.1 at);
    rests = rests;
  }

  asked_at : (m : ℕ) (line : Line) → IsQuestion w.way handle others line → Happens w m (line ∷ []) → Asked m
  asked_at m (answered step answer) same happens = asked_so m happens.0 step answer same happens.1.0 happens.1.1
  asked_at m (no_room step answer) same happens = asked_so m happens.0 step answer same happens.1.0 happens.1.1
  asked_at m (not_made error) same happens = absurd same

  asked : Asked at_question.later
  asked = asked_at at_question.later last question at_question.happens

  opens : OpensBelow w handle names
  opens = opens_so all_lived at_question.later asked.t handle names others at_question.good asked.at asked.rests

  -- the lines of the history lead somewhere, too
  joined : (way : Way) (turn mid end : Turn) (ls : List Line) (last : Line) → LeadsTo way turn ls mid → LeadsTo way mid (last ∷ []) end → LeadsTo way turn (ls ++ last ∷ []) end
  joined way turn mid end [] last first onward = subst (λ t. LeadsTo way t (last ∷ []) end) (sym first) onward
  joined way (more w) mid end (line ∷ ls) last first onward = (first.0, joined way (take way _ w _) mid end ls last first.1 onward)
  joined way (found h ns) mid end (line ∷ ls) last first onward = absurd first
  joined way (partial h ns rest) mid end (line ∷ ls) last first onward = absurd first
  joined way (failed error) mid end (line ∷ ls) last first onward = absurd first

  abbrev end_there : Turn
  end_there = take w.way true (ending handle names []) (Names others)

  by_last : (line : Line) → IsQuestion w.way handle others line → LeadsTo w.way (more (ending handle names [])) (line ∷ []) end_there
  by_last (answered step answer) same = (same.0, ap (λ (a : Answer). take w.way true (ending handle names []) a) same.1)
  by_last (no_room step answer) same = (same.0, ap (λ (a : Answer). take w.way false (ending handle names []) a) same.1)
  by_last (not_made error) same = absurd same

  led : LeadsTo w.way (begins w.way w.path) w.lines end_there
  led = subst (λ ls. LeadsTo w.way (begins w.way w.path) ls end_there) (sym lines)
      (joined w.way (begins w.way w.path) (more (ending handle names [])) end_there front last leads (by_last last question))

  fits : Fits (setting w)
  fits = record {
    objects = λ x object e. all_lived.objects 0 x object e;
    first = refl;
    top_free = λ t. (all_lived.states t).tree.top_is_free;
    steady = λ e alone t. steady tree_laws.nodes w (only_tell w end_there is led) e alone t;
    no_root_below = λ d ns n. root_is_no_child tree_laws.one_way (begin_of w).nodes (begins_as_tree tree_laws w is).tree w.root d ns n;
    root_dir = is.root_is_dir;
  }

  abbrev meaning : Bool → Meant
  meaning b = if b then fails CrossRoot [] else path_means (ground w) (parts_of_walk w)

  -- the whole path means what its parts do
  plain : whole_meaning w ≡ path_means (ground w) (parts_of_walk w)
  plain = ap meaning inside

  passed_alone : AllLeftAlone w (reads_of (whole_meaning w)) → Followed (setting w) (path_means (ground w) (parts_of_walk w)) (start w) opens.to None
  passed_alone alone =
      follow fits LINKS_MAX opens.trail (le_refl LINKS_MAX) refl
      (subst (λ m. AllAlone (setting w) (reads_of m)) plain (all_alone w (reads_of (whole_meaning w)) alone))

  means : MeansBelow w handle names
  means alone =
      let f = passed_alone alone in
      subst (λ m. IsMeant m (found handle names)) (sym plain) (subst (λ m. IsMeant m (found handle names)) (sym f.says.1) (sym opens.node))

  pub seen_below : SeenBelow w handle names
  seen_below = record { opens = opens; means = means; leaves = own_events_leave_nodes w end_there is led }

  -- where the entries that the path reads are left alone, the names are those that were passed
  pub names_alone : AllLeftAlone w (reads_of (whole_meaning w)) → others ≡ reverse names
  names_alone alone =
      names_so all_lived at_question.later asked.t handle names others at_question.good asked.at
      (subst (λ ns. Stands (state_at w asked.t).nodes w.root handle.node ns) opens.passed
      (subst (λ x. Stands (state_at w asked.t).nodes w.root x opens.to.names) opens.node
      (stands_on fits asked.t opens.to.node opens.to.names (passed_alone alone).way)))
