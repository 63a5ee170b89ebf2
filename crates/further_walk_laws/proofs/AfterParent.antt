-- What is passed from a Parent on, and from the NameBelow after it.
use Rattle.std.specs.Prelude.{◌≡◌, ℕ, suc, ◌+◌, ◌≤◌, List, [], ◌∷◌, Bool, true, false, if◌then◌else◌, length, reverse, Option, Some, None, refl}
use Rattle.std.proofs.Common.{sym, ap, subst, ◌∙◌, le_refl, inl, inr, arith}
use Rattle.std.proofs.lemmas.Bool.{false≢true}
use Rattle.std.proofs.lemmas.Option.{none-some, same_Some}
use Rattle.path_text.specs.declared.errno.Errno.TheVariants.{NotFound, Raced, TooMany}
use Rattle.path_text.specs.Names.{same_names}
use Rattle.tree_model.specs.declared.answer.Answer.{Answer}
use Rattle.tree_model.specs.declared.answer.Answer.TheVariants.{Opened, Names, NotBelow, Refused}
use Rattle.tree_model.specs.declared.step.StepOf.TheVariants.{Parent, NameBelow}
use Rattle.tree_model.specs.State.{parent, Stands, names_below}
use Rattle.tree_model.specs.Steps.{outcome, opens, shows, kind_of}
use Rattle.tree_model.proofs.Standing.{Stands-names_below}
use Rattle.tree_model.proofs.PlaceLaws.{below_is}
use Rattle.handles.proofs.SameNames.{same_where_equal}
use Rattle.step_resolver.specs.Asked.{AskedPart, Up}
use Rattle.step_resolver.specs.Trail.{climb}
use Rattle.step_resolver.specs.Order.{Handle, holds, todo, rising, judging, Turn, failed, gives_up, goes_on, judged, take}
use Rattle.step_resolver.specs.WalkHistory.{WalkInHistory, state_at, timeline}
use Rattle.step_resolver.proofs.Trail.Joined.{own_earlier}
use Rattle.step_resolver.proofs.Underway.StepOutcomes.{Opening, too_many, no_object, is_opened, opening_of, ParentCase, not_dir, no_parent, at_parent, parent_case}
use Rattle.step_resolver.proofs.Underway.WalkInvariant.{Lived, StepAt, held_at, HandlesAre, root_open, held_kept, dir_at, spot_at, GoodRising, GoodJudging}
use Rattle.step_resolver.proofs.Underway.HandlesHeld.{kept_on}
use Rattle.step_resolver.proofs.Underway.AfterParent.{names_same, reversed_same, parent_is_something}
use Rattle.further_walk_laws.proofs.Passing.{tells_whole, on_the_way, AheadAt, AheadIn, paid_for, passed_alone, stopped_for, given_up, gave_up_in}
use Rattle.further_walk_laws.proofs.NextParts.{goes_on_ahead}
use Rattle.further_walk_laws.proofs.AfterOpen.{two_at_most}

-- Names that are told are judged: they are those passed, and the node stands there; or the walk gives up.
pub judged_ahead : {w : WalkInHistory} → Lived w → (m u : ℕ) (handle : Handle) (names : List (List ℕ)) (turn : Turn) (answer : Answer)
    → StepAt w m u (NameBelow w.way.root handle.number) answer → held_at w m w.way.root ≡ Some w.root → held_at w m handle.number ≡ Some handle.node
    → (taken : Answer → Turn) → ((told : List (List ℕ)) → taken (Names told) ≡ judged handle names told turn) → taken NotBelow ≡ gives_up (handle.number ∷ []) Raced
    → (Then : Turn → Type 0) (Before : Type 0)
    → (Stands (state_at w u).nodes w.root handle.node names → ((h : ℕ) → held_at w (suc u) h ≡ held_at w m h) → Then turn → Before)
    → ((Stands (state_at w u).nodes w.root handle.node names → ⊥) → Then (gives_up (handle.number ∷ []) Raced) → Before) → Then (taken answer) → Before
judged_ahead {w} lived m u handle names turn answer is root_is handle_is taken on_names on_none Then Before stood astray ahead =
    on_told (names_below (state_at w u).nodes w.root handle.node) refl
  where
    outcome_is : outcome (state_at w u) w.actor (NameBelow w.way.root handle.number) ≡ shows (state_at w u) (names_below (state_at w u).nodes w.root handle.node)
    outcome_is = below_is (state_at w u) w.actor w.way.root handle.number w.root handle.node (is.kept w.way.root ∙ root_is) (is.kept handle.number ∙ handle_is)

    on_test : (told : List (List ℕ)) → names_below (state_at w u).nodes w.root handle.node ≡ Some told → ((h : ℕ) → held_at w (suc u) h ≡ held_at w m h)
        → (b : Bool) → same_names (reverse told) (reverse names) ≡ b → Then (if b then turn else gives_up (handle.number ∷ []) Raced) → Before
    on_test told q kept true e a =
        stood (Stands-names_below (state_at w u).nodes w.root handle.node names
        (q ∙ ap Some (reversed_same told names (names_same (reverse told) (reverse names) e)))) kept a
    on_test told q kept false e a =
        astray (λ stands. false≢true (sym e ∙ same_where_equal (reverse told) (reverse names)
        (ap reverse (same_Some told names (sym q ∙ lived.below u handle.node names stands))))) a

    on_told : (o : Option (List (List ℕ))) → names_below (state_at w u).nodes w.root handle.node ≡ o → Before
    on_told None q = astray (λ stands. none-some names (sym q ∙ lived.below u handle.node names stands))
        (subst Then on_none (subst (λ v. Then (taken v)) (is.told ∙ ap (λ r. r.answer) (outcome_is ∙ ap (shows (state_at w u)) q)) ahead))
    on_told (Some told) q = on_test told q (kept_on is (ap (λ r. r.after) (outcome_is ∙ ap (shows (state_at w u)) q))) (same_names (reverse told) (reverse names)) refl
        (subst Then (on_names (reverse told)) (subst (λ v. Then (taken v)) (is.told ∙ ap (λ r. r.answer) (outcome_is ∙ ap (shows (state_at w u)) q)) ahead))

two_lines_of_two : (n : ℕ) → n ≤ 1 → suc n ≤ 2
two_lines_of_two n le = omega (arith, le)

module _ {w : WalkInHistory} (lived : Lived w) (end : Turn) (texts now t n : ℕ) (room : Bool) (old : Handle) (names : List (List ℕ)) (inner rest : List AskedPart) (b : ℕ)
    (good : GoodRising w now old names (todo inner rest b)) (answer : Answer) (is : StepAt w now t (Parent old.number) answer) where
  abbrev Before : Type 0
  Before = AheadIn w end texts now (rising old names (todo inner rest b)) (suc n)

  abbrev Then : Turn → Type 0
  Then turn = AheadAt w end texts (suc t) turn n

  is_there : held_at w t old.number ≡ Some old.node
  is_there = is.kept old.number ∙ good.old_held.is_open

  as_told : (v : Answer) → answer ≡ v → Then (take w.way room (rising old names (todo inner rest b)) answer) → Then (take w.way room (rising old names (todo inner rest b)) v)
  as_told v e ahead = subst (λ u. Then (take w.way room (rising old names (todo inner rest b)) u)) e ahead

  -- a place without a parent
  parentless : parent (state_at w t).nodes old.node ≡ None → Then (gives_up (old.number ∷ []) Raced) → Before
  parentless none ahead = λ own alone name m past.
      let fails = given_up w end texts (suc t) n (old.number ∷ []) Raced ahead in
      stopped_for w end texts (suc n) 4 m own Up inner rest (spot_at w (holds old (name ∷ names)) b m) alone (le_refl m) (two_at_most n fails.0) fails.2
      (fails.1 [] (spot_at w (holds old (name ∷ names)) b m) (Some Up)
      (tells_whole w (failed Raced) [] (spot_at w (holds old (name ∷ names)) b m) (Some Up) refl
      (λ stop few exact. inl (
        record {
          to = spot_at w (holds old (name ∷ names)) b m;
          stop = stop;
          name = name;
          names = names;
          passed = refl;
          when = t;
          at = own_earlier (timeline w) past is.at;
          why = inl none;
        },
        few,
      ))))

  on_opening : (e : ℕ) → parent (state_at w t).nodes old.node ≡ Some e
      → outcome (state_at w t) w.actor (Parent old.number) ≡ opens (state_at w t) w.actor e → Opening (state_at w t) w.actor e (opens (state_at w t) w.actor e)
      → Then (take w.way room (rising old names (todo inner rest b)) answer) → Before
  on_opening e p o (too_many f q) ahead = gave_up_in w end texts now (suc t) n (rising old names (todo inner rest b)) (old.number ∷ []) TooMany (omega arith) (on_the_way w)
      (as_told (Refused TooMany) (is.told ∙ ap (λ r. r.answer) (o ∙ q)) ahead)
  on_opening e p o (no_object z q) ahead = absurd (parent_is_something (state_at w t).nodes (lived.states t).tree old.node e p z)
  on_opening e p o (is_opened what z q) ahead =
      let a = as_told (Opened (length (state_at w t).handles) e (kind_of what)) (is.told ∙ ap (λ r. r.answer) (o ∙ q)) ahead in
      λ own alone name m past. paid_for w end texts n (suc 0 + 2) (suc n) 4 own Up inner rest (spot_at w (holds old (name ∷ names)) b m) (omega arith)
      (a own alone old name m t good.dir (own_earlier (timeline w) past is.at) p (le_refl (suc t)))

  on_case : ParentCase (state_at w t) w.actor old.node (outcome (state_at w t) w.actor (Parent old.number))
      → Then (take w.way room (rising old names (todo inner rest b)) answer) → Before
  on_case (not_dir e o) ahead = absurd (false≢true (sym e ∙ dir_at lived t old.number old.node is_there ∙ good.dir))
  on_case (no_parent e o) ahead = parentless e (as_told (Refused NotFound) (is.told ∙ ap (λ r. r.answer) o) ahead)
  on_case (at_parent e p o) ahead = on_opening e p o (opening_of (state_at w t) w.actor e) ahead

  -- what the answer to a Parent leads to
  pub rising_ahead : Then (take w.way room (rising old names (todo inner rest b)) answer) → Before
  rising_ahead ahead = on_case (parent_case (state_at w t) w.actor old.number old.node is_there) ahead

module _ {w : WalkInHistory} (lived : Lived w) (end : Turn) (texts now u n : ℕ) (room : Bool) (new : Handle) (names : List (List ℕ)) (inner rest : List AskedPart) (b : ℕ)
    (good : GoodJudging w now new names (todo inner rest b)) (handles : HandlesAre w now (new.number ∷ [])) (answer : Answer)
    (is : StepAt w now u (NameBelow w.way.root new.number) answer) where
  climbed : Stands (state_at w u).nodes w.root new.node names → ((h : ℕ) → held_at w (suc u) h ≡ held_at w now h)
      → AheadAt w end texts (suc u) (goes_on w.way (holds new names) (todo inner rest b)) n → AheadIn w end texts now (judging new names (todo inner rest b)) (suc n)
  climbed stands kept ahead = λ own alone old name m t dir at is_parent past.
      passed_alone (spot_at w (holds old (name ∷ names)) b m) texts n 4 (suc n) 2 own Up inner rest alone (omega arith)
      (λ ps z next trail. (
        climb t u new.node names (record {
          dir = dir;
          name = name;
          passed = refl;
          at = at;
          parent = is_parent;
          checked = own_earlier (timeline w) past is.at;
          stands = stands;
        }) trail,
        refl,
      ))
      (goes_on_ahead lived end texts (suc u) n (holds new names) (λ none. subst (λ ns. Stands (state_at w u).nodes w.root new.node ns) none stands) (held_kept kept good.new_held)
      inner rest b ahead (suc u) (le_refl (suc u)))

  -- what was opened didn't stand at the names less the last
  gone_astray : (Stands (state_at w u).nodes w.root new.node names → ⊥) → AheadAt w end texts (suc u) (gives_up (new.number ∷ []) Raced) n
      → AheadIn w end texts now (judging new names (todo inner rest b)) (suc n)
  gone_astray astray ahead = λ own alone old name m t dir at is_parent past.
      let fails = given_up w end texts (suc u) n (new.number ∷ []) Raced ahead in
      stopped_for w end texts (suc n) 2 m own Up inner rest (spot_at w (holds old (name ∷ names)) b m) alone (le_refl m) (two_lines_of_two n fails.0) fails.2
      (fails.1 [] (spot_at w (holds old (name ∷ names)) b m) (Some Up)
      (tells_whole w (failed Raced) [] (spot_at w (holds old (name ∷ names)) b m) (Some Up) refl
      (λ stop few exact. inl (
        record {
          to = spot_at w (holds old (name ∷ names)) b m;
          stop = stop;
          name = name;
          names = names;
          passed = refl;
          when = t;
          at = at;
          why = inr (new.node, (is_parent, (u, (own_earlier (timeline w) past is.at, astray))));
        },
        few,
      ))))

  -- what the answer to a NameBelow after `..` leads to
  pub judging_ahead : AheadAt w end texts (suc u) (take w.way room (judging new names (todo inner rest b)) answer) n → AheadIn w end texts now (judging new names (todo inner rest b)) (suc n)
  judging_ahead ahead = judged_ahead lived now u new names (goes_on w.way (holds new names) (todo inner rest b)) answer is
      (root_open lived handles) good.new_held.is_open
      (λ v. take w.way room (judging new names (todo inner rest b)) v) (λ told. refl) refl
      (λ turn. AheadAt w end texts (suc u) turn n) (AheadIn w end texts now (judging new names (todo inner rest b)) (suc n))
      climbed
      gone_astray
      ahead
