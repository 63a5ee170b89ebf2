-- What the answers to Parent, and to NameBelow after it, make of a walk.
use Rattle.std.specs.Prelude.{◌≡◌, ℕ, suc, ◌==◌, List, [], ◌∷◌, Bool, true, false, if◌then◌else◌, length, reverse, Option, Some, None, refl}
use Rattle.std.specs.Option.{option_map}
use Rattle.std.proofs.Common.{sym, ap, subst, ◌∙◌, le_refl, inl, inr}
use Rattle.std.proofs.lemmas.List.{reverse-reverse}
use Rattle.std.proofs.lemmas.Bool.{false≢true}
use Rattle.std.proofs.lemmas.Option.{none-some, same_Some}
use Rattle.std.specs.Cmp.Lexicographic.{bytes_decides, pointwise_decides}
use Rattle.path_text.specs.declared.errno.Errno.TheVariants.{NotFound, Raced, TooMany}
use Rattle.path_text.specs.Names.{same_names}
use Rattle.tree_model.specs.declared.answer.Answer.{Answer}
use Rattle.tree_model.specs.declared.answer.Answer.TheVariants.{Opened, Names, NotBelow, Refused}
use Rattle.tree_model.specs.declared.inode.Inode.{Inode}
use Rattle.tree_model.specs.declared.inode.Place.{Place}
use Rattle.tree_model.specs.declared.step.StepOf.TheVariants.{Parent, NameBelow}
use Rattle.tree_model.specs.State.{TOP, object_at, place_at, parent, is_directory, Stands, names_below}
use Rattle.tree_model.specs.Steps.{outcome, opens, shows, kind_of}
use Rattle.tree_model.specs.Trees.{IsTree}
use Rattle.tree_model.proofs.Standing.{Stands-names_below}
use Rattle.tree_model.proofs.PlaceLaws.{below_is}
use Rattle.handles.proofs.SameNames.{same_where_equal}
use Rattle.step_resolver.specs.Asked.{AskedPart, Up}
use Rattle.step_resolver.specs.Trail.{climb, IsOwnFrom}
use Rattle.step_resolver.specs.Order.{Handle, holds, todo, judges, rising, judging, Turn, gives_up, goes_on, judged, take}
use Rattle.step_resolver.specs.WalkHistory.{WalkInHistory, state_at, timeline}
use Rattle.step_resolver.specs.Failures.{MetRefusal}
use Rattle.step_resolver.proofs.Trail.Joined.{own_earlier}
use Rattle.step_resolver.proofs.Underway.StepOutcomes.{Opening, too_many, no_object, is_opened, opening_of, ParentCase, not_dir, no_parent, at_parent, parent_case}
use Rattle.step_resolver.proofs.Underway.WalkInvariant.{Lived, StepAt, held_at, HandlesAre, handles_kept, handles_more, root_open, IsHeld, held_kept, old_is_other, dir_at, spot_at, Going, stop_at, passed_on, GoodRising, GoodJudging, Good}
use Rattle.step_resolver.proofs.Underway.HandleCount.{few_held, refusal_told}
use Rattle.step_resolver.proofs.Underway.NextPart.{gave_up, goes_on_good, closes_good}
use Rattle.step_resolver.proofs.Underway.HandlesHeld.{handles_swapped, kept_on, more_on}

-- what a parent is told to be is something
pub parent_is_something : (nodes : List Inode) → IsTree nodes → (x e : ℕ) → parent nodes x ≡ Some e → object_at nodes e ≡ None → ⊥
parent_is_something nodes is x e p none = on (x == TOP) refl
  where
    parent_of : Bool → Option ℕ
    parent_of b = if b then Some TOP else option_map (λ place. place.parent) (place_at nodes x)

    on_place : (o : Option Place) → place_at nodes x ≡ o → option_map (λ place. place.parent) (place_at nodes x) ≡ Some e → ⊥
    on_place None q h = none-some e (sym (ap (option_map (λ place. place.parent)) q) ∙ h)
    on_place (Some place) q h =
        let same : place.parent ≡ e = same_Some place.parent e (sym (ap (option_map (λ y. y.parent)) q) ∙ h) in
        false≢true (sym (ap is_directory (ap (object_at nodes) same ∙ none)) ∙ is.parents_are_dirs x place q)

    on : (b : Bool) → (x == TOP) ≡ b → ⊥
    on true t =
        let same : TOP ≡ e = same_Some TOP e (sym (ap parent_of t) ∙ p) in
        none-some _ (sym none ∙ ap (object_at nodes) (sym same) ∙ is.top_is_dir)
    on false t = on_place (place_at nodes x) refl (sym (ap parent_of t) ∙ p)

-- the test of names
pub names_same : (xs ys : List (List ℕ)) → same_names xs ys ≡ true → xs ≡ ys
names_same xs ys e = (pointwise_decides bytes_decides xs ys).0 e

pub reversed_same : (xs ys : List (List ℕ)) → reverse xs ≡ reverse ys → xs ≡ ys
reversed_same xs ys e = sym (reverse-reverse xs) ∙ ap reverse e ∙ reverse-reverse ys

-- Names that are told are judged: they are those passed, and the node stands there; or it doesn't.
pub judged_good : {w : WalkInHistory} → Lived w → (m u : ℕ) (handle : Handle) (names : List (List ℕ)) (turn : Turn) (answer : Answer)
    → StepAt w m u (NameBelow w.way.root handle.number) answer → held_at w m w.way.root ≡ Some w.root → held_at w m handle.number ≡ Some handle.node
    → (taken : Answer → Turn) → ((told : List (List ℕ)) → taken (Names told) ≡ judged handle names told turn) → taken NotBelow ≡ gives_up (handle.number ∷ []) Raced
    → (Stands (state_at w u).nodes w.root handle.node names → ((h : ℕ) → held_at w (suc u) h ≡ held_at w m h) → Good w (suc u) turn)
    → ((Stands (state_at w u).nodes w.root handle.node names → ⊥) → ((h : ℕ) → held_at w (suc u) h ≡ held_at w m h) → Good w (suc u) (gives_up (handle.number ∷ []) Raced))
    → Good w (suc u) (taken answer)
judged_good {w} lived m u handle names turn answer is root_is handle_is taken on_names on_none stood astray =
    on_told (names_below (state_at w u).nodes w.root handle.node) refl
  where
    outcome_is : outcome (state_at w u) w.actor (NameBelow w.way.root handle.number) ≡ shows (state_at w u) (names_below (state_at w u).nodes w.root handle.node)
    outcome_is = below_is (state_at w u) w.actor w.way.root handle.number w.root handle.node (is.kept w.way.root ∙ root_is) (is.kept handle.number ∙ handle_is)

    judged_as : (told : List (List ℕ)) → Bool → Turn
    judged_as told b = if b then turn else gives_up (handle.number ∷ []) Raced

    on_test : (told : List (List ℕ)) → names_below (state_at w u).nodes w.root handle.node ≡ Some told → ((h : ℕ) → held_at w (suc u) h ≡ held_at w m h)
        → (b : Bool) → same_names (reverse told) (reverse names) ≡ b → Good w (suc u) (judged handle names (reverse told) turn)
    on_test told q kept true e =
        subst (Good w (suc u)) (sym (ap (judged_as told) e))
        (stood (Stands-names_below (state_at w u).nodes w.root handle.node names
        (q ∙ ap Some (reversed_same told names (names_same (reverse told) (reverse names) e)))) kept)
    on_test told q kept false e =
        subst (Good w (suc u)) (sym (ap (judged_as told) e))
        (astray (λ stands. false≢true (sym e ∙ same_where_equal (reverse told) (reverse names)
        (ap reverse (same_Some told names (sym q ∙ lived.below u handle.node names stands))))) kept)

    on_told : (o : Option (List (List ℕ))) → names_below (state_at w u).nodes w.root handle.node ≡ o → Good w (suc u) (taken answer)
    on_told None q =
        subst (λ v. Good w (suc u) (taken v)) (sym (is.told ∙ ap (λ r. r.answer) (outcome_is ∙ ap (shows (state_at w u)) q)))
        (subst (Good w (suc u)) (sym on_none)
        (astray (λ stands. none-some names (sym q ∙ lived.below u handle.node names stands))
        (kept_on is (ap (λ r. r.after) (outcome_is ∙ ap (shows (state_at w u)) q)))))
    on_told (Some told) q =
        subst (λ v. Good w (suc u) (taken v)) (sym (is.told ∙ ap (λ r. r.answer) (outcome_is ∙ ap (shows (state_at w u)) q)))
        (subst (Good w (suc u)) (sym (on_names (reverse told)))
        (on_test told q (kept_on is (ap (λ r. r.after) (outcome_is ∙ ap (shows (state_at w u)) q))) (same_names (reverse told) (reverse names)) refl))

module _ {w : WalkInHistory} (lived : Lived w) (now t : ℕ) (room : Bool) (old : Handle) (names : List (List ℕ)) (inner rest : List AskedPart) (b : ℕ)
    (good : GoodRising w now old names (todo inner rest b)) (answer : Answer) (is : StepAt w now t (Parent old.number) answer)
    (met : answer ≡ Refused TooMany → MetRefusal (Parent old.number) w.lines) where
  is_there : held_at w t old.number ≡ Some old.node
  is_there = is.kept old.number ∙ good.old_held.is_open

  answered_as : (v : Answer) → answer ≡ v → Good w (suc t) (take w.way room (rising old names (todo inner rest b)) v)
      → Good w (suc t) (take w.way room (rising old names (todo inner rest b)) answer)
  answered_as v e g = subst (λ u. Good w (suc t) (take w.way room (rising old names (todo inner rest b)) u)) (sym e) g

  on_opening : (e : ℕ) → parent (state_at w t).nodes old.node ≡ Some e
      → outcome (state_at w t) w.actor (Parent old.number) ≡ opens (state_at w t) w.actor e
      → Opening (state_at w t) w.actor e (opens (state_at w t) w.actor e)
      → Good w (suc t) (take w.way room (rising old names (todo inner rest b)) answer)
  on_opening e p o (too_many f q) = answered_as (Refused TooMany) (is.told ∙ ap (λ r. r.answer) (o ∙ q))
      (gave_up lived (old.number ∷ []) TooMany
      (refusal_told is (met (is.told ∙ ap (λ r. r.answer) (o ∙ q))) (ap (λ r. r.answer) (o ∙ q)) f (few_held w t (holds old (good.name ∷ names)) (handles_kept is.kept good.handles)))
      (handles_kept (kept_on is (ap (λ r. r.after) (o ∙ q))) good.handles))
  on_opening e p o (no_object z q) = absurd (parent_is_something (state_at w t).nodes (lived.states t).tree old.node e p z)
  on_opening e p o (is_opened what z q) =
      let new = more_on is e (ap (λ r. r.after) (o ∙ q)) in
      let held_then : IsHeld w t old = held_kept is.kept good.old_held in
      answered_as (Opened (length (state_at w t).handles) e (kind_of what)) (is.told ∙ ap (λ r. r.answer) (o ∙ q))
      (closes_good lived (suc t) (old.number ∷ []) (judges (record { number = length (state_at w t).handles; node = e; kind = kind_of what }) names (todo inner rest b))
      (record {
        own = good.own;
        name = good.name;
        old = old;
        m = now;
        t = t;
        going = good.going;
        dir = good.dir;
        at = is.at;
        parent = p;
        past = le_refl (suc t);
        new_held = record { is_open = new.is_open; what = what; is_what = lived.objects t e what z; kind = refl };
      })
      ((old_is_other held_then new, tt), tt)
      (handles_swapped (handles_more (handles_kept is.kept good.handles) new)))

  on_case : ParentCase (state_at w t) w.actor old.node (outcome (state_at w t) w.actor (Parent old.number))
      → Good w (suc t) (take w.way room (rising old names (todo inner rest b)) answer)
  on_case (not_dir e o) = absurd (false≢true (sym e ∙ dir_at lived t old.number old.node is_there ∙ good.dir))
  on_case (no_parent e o) = answered_as (Refused NotFound) (is.told ∙ ap (λ r. r.answer) o)
      (gave_up lived (old.number ∷ []) Raced (inl (record {
        to = spot_at w (holds old (good.name ∷ names)) b now;
        stop = stop_at w good.own Up (holds old (good.name ∷ names)) (todo inner rest b) good.going;
        name = good.name;
        names = names;
        passed = refl;
        when = t;
        at = is.at;
        why = inl e;
      })) (handles_kept (kept_on is (ap (λ r. r.after) o)) good.handles))
  on_case (at_parent e p o) = on_opening e p o (opening_of (state_at w t) w.actor e)

  -- what an answer to Parent makes of it
  pub rising_good : Good w (suc t) (take w.way room (rising old names (todo inner rest b)) answer)
  rising_good = on_case (parent_case (state_at w t) w.actor old.number old.node is_there)

module _ {w : WalkInHistory} (lived : Lived w) (now u : ℕ) (room : Bool) (new : Handle) (names : List (List ℕ)) (inner rest : List AskedPart) (b : ℕ)
    (good : GoodJudging w now new names (todo inner rest b)) (handles : HandlesAre w now (new.number ∷ [])) (answer : Answer)
    (is : StepAt w now u (NameBelow w.way.root new.number) answer) where
  checked : IsOwnFrom (timeline w) (suc good.t) u
  checked = own_earlier (timeline w) good.past is.at

  climbed : Stands (state_at w u).nodes w.root new.node names → Going w (suc u) (holds new names) inner rest b
  climbed stands = passed_on good.own Up (holds good.old (good.name ∷ names)) inner rest b good.going (holds new names) b (suc u)
      (λ ps z next tr. climb good.t u new.node names
      (record { dir = good.dir; name = good.name; passed = refl; at = good.at; parent = good.parent; checked = checked; stands = stands }) tr)

  -- what an answer to NameBelow makes of it after `..`
  pub judging_good : Good w (suc u) (take w.way room (judging new names (todo inner rest b)) answer)
  judging_good = judged_good lived now u new names (goes_on w.way (holds new names) (todo inner rest b)) answer is
      (root_open lived handles) good.new_held.is_open
      (λ v. take w.way room (judging new names (todo inner rest b)) v) (λ told. refl) refl
      (λ stands kept. goes_on_good lived (suc u) (holds new names) inner rest b (climbed stands) (held_kept kept good.new_held) (handles_kept kept handles))
      (λ astray kept. gave_up lived (new.number ∷ []) Raced (inl (record {
        to = spot_at w (holds good.old (good.name ∷ names)) b good.m;
        stop = stop_at w good.own Up (holds good.old (good.name ∷ names)) (todo inner rest b) good.going;
        name = good.name;
        names = names;
        passed = refl;
        when = good.t;
        at = good.at;
        why = inr (new.node, (good.parent, (u, (checked, astray))));
      })) (handles_kept kept handles))
