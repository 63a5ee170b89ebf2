-- What the answer to an Open makes of a walk.
use Rattle.std.specs.Prelude.{◌≡◌, ℕ, zero, suc, ◌&&◌, ◌⊎◌, List, [], ◌∷◌, ◌++◌, Bool, true, false, if◌then◌else◌, length, Some, None, refl}
use Rattle.std.proofs.Common.{sym, ap, subst, ◌∙◌, le_refl, le_trans, inl, inr}
use Rattle.std.proofs.Math.Nat.{le-suc}
use Rattle.std.proofs.lemmas.Bool.{false≢true, and_parts, and_from}
use Rattle.path_text.specs.declared.errno.Errno.TheVariants.{NotFound, NoMemory, TooMany, Loop}
use Rattle.tree_model.specs.declared.answer.Answer.{Answer}
use Rattle.tree_model.specs.declared.answer.Answer.TheVariants.{Opened, Refused}
use Rattle.tree_model.specs.declared.inode.Object.{Object}
use Rattle.tree_model.specs.declared.inode.Object.TheVariants.{Dir, File, Link}
use Rattle.tree_model.specs.declared.step.StepOf.TheVariants.{Open}
use Rattle.tree_model.specs.State.{object_at, child}
use Rattle.tree_model.specs.Steps.{outcome, opens, kind_of}
use Rattle.tree_model.proofs.Children.{entry, place_at-child}
use Rattle.step_resolver.specs.Asked.{AskedPart, Named, is_deepest}
use Rattle.step_resolver.specs.Trail.{down, IsChildAt, is_entered}
use Rattle.step_resolver.specs.Order.{Handle, Position, root_itself, holds, todo, onward, opening, Turn, names_of, handles_of, handle_at, gives_up, at_end, is_followed, follows_link, enters, opened, take, more, reading}
use Rattle.step_resolver.specs.WalkHistory.{WalkInHistory, state_at, timeline}
use Rattle.step_resolver.specs.Failures.{TellsError, IsMissingAt, MetRefusal}
use Rattle.step_resolver.proofs.Meaning.NodesAtEntries.{object_at-place}
use Rattle.step_resolver.proofs.Underway.StepOutcomes.{IsMore, Opening, too_many, no_object, is_opened, opening_of, OpenCase, no_dir, no_child, at_child, open_case}
use Rattle.step_resolver.proofs.Underway.WalkInvariant.{Lived, StepAt, held_at, HandlesAre, handles_kept, handles_more, IsHeld, dir_at, node_at, spot_at, IsPositionHeld, Going, GoesFor, stop_at, passed_on, within_link, AllApart, GoodOpening, at_missing, Good}
use Rattle.step_resolver.proofs.Underway.HandleCount.{few_held, refusal_told}
use Rattle.step_resolver.proofs.Underway.NextPart.{gave_up, closes_good}
use Rattle.step_resolver.proofs.Underway.HandlesHeld.{handles_swapped, kept_on, more_on, position_open, position_kept, position_more, new_is_other}

module _ {w : WalkInHistory} (lived : Lived w) (now t : ℕ) (room : Bool) (want : room ≡ false → TellsError w NoMemory)
    (position : Position) (own follow : Bool) (n : List ℕ) (inner rest : List AskedPart) (b : ℕ)
    (good : GoodOpening w now position own follow n (todo inner rest b)) (answer : Answer)
    (is : StepAt w now t (Open (handle_at w.way position) n) answer)
    (met : answer ≡ Refused TooMany → MetRefusal (Open (handle_at w.way position) n) w.lines) where
  is_there : held_at w t (handle_at w.way position) ≡ Some (node_at w position)
  is_there = is.kept (handle_at w.way position) ∙ position_open lived now position good.position_held good.handles

  position_held_at : IsPositionHeld w t position
  position_held_at = position_kept w now t position is.kept good.position_held

  -- a name of the caller's own that is missing, where the deepest directory is wanted
  deepest_good : is_deepest w.way.goal ≡ true → (o : Bool) → GoesFor w now o (Named follow n) position (todo inner rest b) → o ≡ true
      → IsMissingAt w (spot_at w position b now) n t → IsPositionHeld w (suc t) position → HandlesAre w (suc t) (handles_of position)
      → (p : Position) → p ≡ position → Good w (suc t) (at_end p (Named follow n ∷ rest))
  deepest_good deep false going e missing held are p q = absurd (false≢true e)
  deepest_good deep true going e missing held are root_itself q = record {
    links = b;
    m = now;
    going = subst (λ x. Going w now x [] (Named follow n ∷ rest) b) (sym q) going.1;
    past = le_trans is.at.later (le-suc t);
    ends = at_missing deep follow n rest refl good.short t (subst (λ x. IsMissingAt w (spot_at w x b now) n t) (sym q) missing) (le_refl (suc t));
    position_held = tt;
    handles = subst (λ x. HandlesAre w (suc t) (handles_of x)) (sym q) are;
  }
  deepest_good deep true going e missing held are (holds handle names) q = record {
    links = b;
    m = now;
    going = subst (λ x. Going w now x [] (Named follow n ∷ rest) b) (sym q) going.1;
    past = le_trans is.at.later (le-suc t);
    ends = at_missing deep follow n rest refl good.short t (subst (λ x. IsMissingAt w (spot_at w x b now) n t) (sym q) missing) (le_refl (suc t));
    position_held = subst (IsPositionHeld w (suc t)) (sym q) held;
    handles = subst (λ x. HandlesAre w (suc t) (handles_of x)) (sym q) are;
  }

  -- a missing name
  missing_good : child (state_at w t).nodes (node_at w position) n ≡ None → ((h : ℕ) → held_at w (suc t) h ≡ held_at w now h)
      → Good w (suc t) (take w.way room (opening position own follow n (todo inner rest b)) (Refused NotFound))
  missing_good none kept = on (is_deepest w.way.goal && own) refl
    where
      missing : IsMissingAt w (spot_at w position b now) n t
      missing = record { dir = good.dir; at = is.at; missing = none }

      after : Bool → Turn
      after c = if c then at_end position (Named follow n ∷ rest) else gives_up (handles_of position) NotFound

      on : (c : Bool) → (is_deepest w.way.goal && own) ≡ c
          → Good w (suc t) (take w.way room (opening position own follow n (todo inner rest b)) (Refused NotFound))
      on true e = subst (Good w (suc t)) (sym (ap after e))
          (deepest_good (and_parts (is_deepest w.way.goal) own e).0 own good.going (and_parts (is_deepest w.way.goal) own e).1 missing
          (position_kept w now (suc t) position kept good.position_held) (handles_kept kept good.handles) position refl)
      on false e = subst (Good w (suc t)) (sym (ap after e)) (gave_up lived (handles_of position) NotFound (record {
        to = spot_at w position b now;
        follow = follow;
        name = n;
        stop = stop_at w own (Named follow n) position (todo inner rest b) good.going;
        within = λ deep. within_link w own (Named follow n) position (todo inner rest b) good.going
            (λ q. false≢true (sym e ∙ and_from (is_deepest w.way.goal) own deep q));
        short = good.short;
        when = t;
        missing = missing;
      }) (handles_kept kept good.handles))

  module _ (c : ℕ) (what : Object) (child_is : child (state_at w t).nodes (node_at w position) n ≡ Some c)
      (is_what : object_at (state_at w t).nodes c ≡ Some what)
      (new : IsMore (state_at w t) w.actor (state_at w (suc t)) (length (state_at w t).handles) c) where
    abbrev opened_handle : Handle
    opened_handle = record { number = length (state_at w t).handles; node = c; kind = kind_of what }

    new_held : IsHeld w (suc t) opened_handle
    new_held = record { is_open = new.is_open; what = what; is_what = lived.objects t c what is_what; kind = refl }

    is_child : IsChildAt (timeline w) (spot_at w position b now) n t c
    is_child = record { dir = good.dir; short = good.short; at = is.at; child = child_is }

    handles_now : HandlesAre w (suc t) (length (state_at w t).handles ∷ handles_of position)
    handles_now = handles_more (handles_kept is.kept good.handles) new

    turned : (p : Position) → IsPositionHeld w t p → HandlesAre w (suc t) (length (state_at w t).handles ∷ handles_of p)
        → AllApart (handles_of p) (length (state_at w t).handles ∷ []) × HandlesAre w (suc t) (handles_of p ++ length (state_at w t).handles ∷ [])
    turned root_itself held are = (tt, are)
    turned (holds handle names) held are = ((((λ e. (new_is_other w t (holds handle names) new held).0 (sym e)), tt), tt), handles_swapped are)

    -- what was opened is held, and what was held is closed
    entered_good : is_entered follow (Some what) ≡ true → (r : Bool) → room ≡ r
        → Good w (suc t) (enters w.way r position n opened_handle (todo inner rest b))
    entered_good entered true e =
        let sides = turned position position_held_at handles_now in
        closes_good lived (suc t) (handles_of position) (onward (holds opened_handle (n ∷ names_of position)) (todo inner rest b)) (
          passed_on own (Named follow n) position inner rest b good.going (holds opened_handle (n ∷ names_of position)) b (suc t)
              (λ ps z next tr. down t c is_child (ap (is_entered follow) (lived.objects t c what is_what) ∙ entered) tr),
          new_held,
        )
        sides.0 sides.1
    entered_good entered false e = gave_up lived (length (state_at w t).handles ∷ handles_of position) NoMemory (want e) handles_now

    -- a link that must be followed
    link_good : (text : List ℕ) → what ≡ Link text → follow ≡ true → (left : ℕ) → b ≡ left
        → Good w (suc t) (follows_link w.way position opened_handle (todo inner rest left))
    link_good text l f left e = on left refl (subst (λ k. GoesFor w now own (Named true n) position (todo inner rest k)) e
        (subst (λ g. GoesFor w now own (Named g n) position (todo inner rest b)) f good.going))
      where
        is_link : (timeline w).object_of c ≡ Some (Link text)
        is_link = lived.objects t c what is_what ∙ ap Some l

        looped : (k : ℕ) → GoesFor w now own (Named true n) position (todo inner rest k) → (k ≡ 0) ⊎ (w.way.flags.no_links ≡ true)
            → Good w (suc t) (gives_up (length (state_at w t).handles ∷ handles_of position) Loop)
        looped k g why = gave_up lived (length (state_at w t).handles ∷ handles_of position) Loop (record {
          to = spot_at w position k now;
          name = n;
          stop = stop_at w own (Named true n) position (todo inner rest k) g;
          used_up = why;
          text = text;
          when = t;
          link = record { dir = good.dir; short = good.short; at = is.at; link = c; child = child_is; is_link = is_link };
        }) handles_now

        on_flag : (k : ℕ) → GoesFor w now own (Named true n) position (todo inner rest (suc k)) → (x : Bool) → w.way.flags.no_links ≡ x
            → Good w (suc t) (follows_link w.way position opened_handle (todo inner rest (suc k)))
        on_flag k g true q =
            subst (Good w (suc t)) (sym (ap (λ x. if x then gives_up (length (state_at w t).handles ∷ handles_of position) Loop else more (reading position opened_handle (todo inner rest k))) q))
            (looped (suc k) g (inr q))
        on_flag k g false q =
            subst (Good w (suc t)) (sym (ap (λ x. if x then gives_up (length (state_at w t).handles ∷ handles_of position) Loop else more (reading position opened_handle (todo inner rest k))) q))
            (record {
              own = own;
              name = n;
              m = now;
              t = t;
              going = g;
              at = record { dir = good.dir; short = good.short; at = is.at; child = child_is };
              past = le_refl (suc t);
              allowed = q;
              text = text;
              is_link = is_link;
              position_held = position_more w t position new position_held_at;
              link_held = new_held;
              apart = new_is_other w t position new position_held_at;
              handles = handles_now;
            })

        on : (k : ℕ) → left ≡ k → GoesFor w now own (Named true n) position (todo inner rest left)
            → Good w (suc t) (follows_link w.way position opened_handle (todo inner rest left))
        on zero q g = subst (λ k. Good w (suc t) (follows_link w.way position opened_handle (todo inner rest k))) (sym q)
            (looped zero (subst (λ k. GoesFor w now own (Named true n) position (todo inner rest k)) q g) (inl refl))
        on (suc k) q g = subst (λ k. Good w (suc t) (follows_link w.way position opened_handle (todo inner rest k))) (sym q)
            (on_flag k (subst (λ k. GoesFor w now own (Named true n) position (todo inner rest k)) q g) w.way.flags.no_links refl)

    opened_good : Good w (suc t) (opened w.way room position follow n opened_handle (todo inner rest b))
    opened_good = on follow refl what refl
      where
        after : Bool → Turn
        after x = if x then follows_link w.way position opened_handle (todo inner rest b) else enters w.way room position n opened_handle (todo inner rest b)

        enters_it : (g : Bool) → follow ≡ g → (o : Object) → what ≡ o → is_followed g (kind_of o) ≡ false → is_entered g (Some o) ≡ true
            → Good w (suc t) (opened w.way room position follow n opened_handle (todo inner rest b))
        enters_it g f o l not_followed entered =
            let q : is_followed follow (kind_of what) ≡ is_followed g (kind_of o) = λ i. is_followed (f i) (kind_of (l i)) in
            let r : is_entered follow (Some what) ≡ is_entered g (Some o) = λ i. is_entered (f i) (Some (l i)) in
            subst (Good w (suc t)) (sym (ap after (q ∙ not_followed))) (entered_good (r ∙ entered) room refl)

        on : (g : Bool) → follow ≡ g → (o : Object) → what ≡ o
            → Good w (suc t) (opened w.way room position follow n opened_handle (todo inner rest b))
        on true f Dir l = enters_it true f Dir l refl refl
        on true f File l = enters_it true f File l refl refl
        on true f (Link text) l =
            let q : is_followed follow (kind_of what) ≡ true = λ i. is_followed (f i) (kind_of (l i)) in
            subst (Good w (suc t)) (sym (ap after q)) (link_good text l f b refl)
        on false f Dir l = enters_it false f Dir l refl refl
        on false f File l = enters_it false f File l refl refl
        on false f (Link text) l = enters_it false f (Link text) l refl refl

  answered_as : (v : Answer) → answer ≡ v → Good w (suc t) (take w.way room (opening position own follow n (todo inner rest b)) v)
      → Good w (suc t) (take w.way room (opening position own follow n (todo inner rest b)) answer)
  answered_as v e g = subst (λ u. Good w (suc t) (take w.way room (opening position own follow n (todo inner rest b)) u)) (sym e) g

  on_opening : (c : ℕ) → child (state_at w t).nodes (node_at w position) n ≡ Some c
      → outcome (state_at w t) w.actor (Open (handle_at w.way position) n) ≡ opens (state_at w t) w.actor c
      → Opening (state_at w t) w.actor c (opens (state_at w t) w.actor c)
      → Good w (suc t) (take w.way room (opening position own follow n (todo inner rest b)) answer)
  on_opening c e o (too_many f q) = answered_as (Refused TooMany) (is.told ∙ ap (λ r. r.answer) (o ∙ q))
      (gave_up lived (handles_of position) TooMany
      (refusal_told is (met (is.told ∙ ap (λ r. r.answer) (o ∙ q))) (ap (λ r. r.answer) (o ∙ q)) f (few_held w t position (handles_kept is.kept good.handles)))
      (handles_kept (kept_on is (ap (λ r. r.after) (o ∙ q))) good.handles))
  on_opening c e o (no_object z q) =
      absurd (object_at-place (state_at w t).nodes c (entry (node_at w position) n) (place_at-child (state_at w t).nodes (node_at w position) n c e) z)
  on_opening c e o (is_opened what z q) =
      answered_as (Opened (length (state_at w t).handles) c (kind_of what)) (is.told ∙ ap (λ r. r.answer) (o ∙ q))
      (opened_good c what e z (more_on is c (ap (λ r. r.after) (o ∙ q))))

  on_case : OpenCase (state_at w t) w.actor (node_at w position) n (outcome (state_at w t) w.actor (Open (handle_at w.way position) n))
      → Good w (suc t) (take w.way room (opening position own follow n (todo inner rest b)) answer)
  on_case (no_dir e o) = absurd (false≢true (sym e ∙ dir_at lived t (handle_at w.way position) (node_at w position) is_there ∙ good.dir))
  on_case (no_child c o) = answered_as (Refused NotFound) (is.told ∙ ap (λ r. r.answer) o) (missing_good c (kept_on is (ap (λ r. r.after) o)))
  on_case (at_child c e o) = on_opening c e o (opening_of (state_at w t) w.actor c)

  -- what an answer to Open makes of it
  pub opening_good : Good w (suc t) (take w.way room (opening position own follow n (todo inner rest b)) answer)
  opening_good = on_case (open_case (state_at w t) w.actor (handle_at w.way position) n (node_at w position) is_there)
