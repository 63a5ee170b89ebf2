-- What is passed from an Open on.
use Rattle.std.specs.Prelude.{◌≡◌, ℕ, zero, suc, ◌+◌, ◌≤◌, ◌&&◌, ◌⊎◌, List, [], ◌∷◌, Bool, true, false, if◌then◌else◌, length, Some, None, refl}
use Rattle.std.proofs.Common.{sym, ap, subst, ◌∙◌, le_refl, le_trans, inl, inr, arith}
use Rattle.std.proofs.Math.Nat.{le-suc}
use Rattle.std.proofs.lemmas.Bool.{false≢true, and_parts, and_from}
use Rattle.path_text.specs.declared.errno.Errno.{Errno}
use Rattle.path_text.specs.declared.errno.Errno.TheVariants.{NotFound, NoMemory, TooMany, Loop}
use Rattle.tree_model.specs.declared.answer.Answer.{Answer}
use Rattle.tree_model.specs.declared.answer.Answer.TheVariants.{Opened, Refused}
use Rattle.tree_model.specs.declared.inode.Object.{Object}
use Rattle.tree_model.specs.declared.inode.Object.TheVariants.{Dir, File, Link}
use Rattle.tree_model.specs.declared.step.StepOf.TheVariants.{Open}
use Rattle.tree_model.specs.State.{object_at, child, is_directory}
use Rattle.tree_model.specs.Steps.{outcome, opens, kind_of}
use Rattle.tree_model.proofs.Children.{entry, place_at-child}
use Rattle.step_resolver.specs.Asked.{AskedPart, Named, is_deepest}
use Rattle.step_resolver.specs.Trail.{down, IsChildAt, is_entered}
use Rattle.step_resolver.specs.Order.{Handle, Position, root_itself, holds, todo, opening, Turn, more, failed, names_of, handles_of, handle_at, gives_up, at_end, is_followed, follows_link, enters, opened, take, reading}
use Rattle.step_resolver.specs.WalkHistory.{WalkInHistory, state_at, timeline}
use Rattle.step_resolver.proofs.Meaning.NodesAtEntries.{object_at-place}
use Rattle.step_resolver.proofs.WalkSteps.{one_handle}
use Rattle.step_resolver.proofs.Trail.Joined.{own_earlier}
use Rattle.step_resolver.proofs.Underway.StepOutcomes.{IsMore, Opening, too_many, no_object, is_opened, opening_of, OpenCase, no_dir, no_child, at_child, open_case}
use Rattle.step_resolver.proofs.Underway.WalkInvariant.{Lived, StepAt, held_at, IsHeld, dir_at, node_at, spot_at, within_link, at_missing, GoodOpening}
use Rattle.step_resolver.proofs.Underway.HandlesHeld.{more_on, position_open}
use Rattle.step_resolver.proofs.Underway.NextPart.{names_not_empty}
use Rattle.further_walk_laws.proofs.Passing.{TellsOf, tells_whole, TellsAnywhere, on_the_way, Ahead, AheadFor, AheadAt, AheadIn, passed_alone, paid_by, paid_for, stopped_for, given_up, gave_up_in}
use Rattle.further_walk_laws.proofs.NextParts.{alone_for, closes_ahead}

pub two_at_most : (k : ℕ) → k ≤ 1 → suc k ≤ 4
two_at_most k le = omega (arith, le)

three_at_most : (k : ℕ) → k ≤ 1 → suc (suc k) ≤ 4
three_at_most k le = omega (arith, le)

one_more_line : (n k : ℕ) → n ≤ k → suc k ≤ 4 → suc n ≤ 4
one_more_line n k le few = omega (arith, le, few)

opened_pays : (n k : ℕ) → k ≤ 1 → suc n + (k + 4) ≤ n + 4 + 4
opened_pays n k le = omega (arith, le)

module _ {w : WalkInHistory} (lived : Lived w) (end : Turn) (texts now t n : ℕ) (room : Bool) (position : Position) (own follow : Bool) (name : List ℕ)
    (inner rest : List AskedPart) (b : ℕ) (good : GoodOpening w now position own follow name (todo inner rest b)) (answer : Answer)
    (is : StepAt w now t (Open (handle_at w.way position) name) answer) where
  -- what is passed from the Open on
  abbrev Before : Type 0
  Before = AheadIn w end texts now (opening position own follow name (todo inner rest b)) (suc n)

  -- what is passed from what comes after it
  abbrev Then : Turn → Type 0
  Then turn = AheadAt w end texts (suc t) turn n

  alone : own ≡ true → inner ≡ []
  alone = alone_for w now b own (Named follow name) position inner rest good.going

  -- the walk gives up for a want
  gave_up : (error : Errno) → TellsAnywhere w (failed error) → Then (gives_up (handles_of position) error) → Before
  gave_up error anywhere ahead =
      gave_up_in w end texts now (suc t) n (opening position own follow name (todo inner rest b)) (handles_of position) error
      (two_at_most (length (handles_of position)) (one_handle position)) anywhere ahead

  gave_up_both : (h : ℕ) (error : Errno) → TellsAnywhere w (failed error) → Then (gives_up (h ∷ handles_of position) error) → Before
  gave_up_both h error anywhere ahead =
      gave_up_in w end texts now (suc t) n (opening position own follow name (todo inner rest b)) (h ∷ handles_of position) error
      (three_at_most (length (handles_of position)) (one_handle position)) anywhere ahead

  -- it stops before the name
  stopped : (hs : List ℕ) → suc (length hs) ≤ 4 → (error : Errno) → TellsOf w (failed error) [] (spot_at w position b now) (Some (Named follow name))
      → Then (gives_up hs error) → Before
  stopped hs few error told ahead = λ m past.
      let fails = given_up w end texts (suc t) n hs error ahead in
      stopped_for w end texts (suc n) 4 now own (Named follow name) inner rest (spot_at w position b m) alone past
      (one_more_line n (length hs) fails.0 few) fails.2 (fails.1 [] (spot_at w position b now) (Some (Named follow name)) told)

  child_at : (m c : ℕ) → m ≤ now → child (state_at w t).nodes (node_at w position) name ≡ Some c → IsChildAt (timeline w) (spot_at w position b m) name t c
  child_at m c past e = record { dir = good.dir; short = good.short; at = own_earlier (timeline w) past is.at; child = e }

  -- a name of the caller's own that is missing, where the deepest directory is wanted
  ends_missing : is_deepest w.way.goal ≡ true → child (state_at w t).nodes (node_at w position) name ≡ None → (m : ℕ) → m ≤ now
      → (place : Position) → place ≡ position → Then (at_end place (Named follow name ∷ rest)) → Ahead w end texts [] (Named follow name ∷ rest) (spot_at w place b m) (suc n) 4
  ends_missing deep none m past root_itself same ahead = paid_by n 3 (suc n) 4 (omega arith)
      (ahead b m (le_trans past (le_trans is.at.later (le-suc t)))
      (at_missing deep follow name rest refl good.short t
      (record { dir = ap (λ x. is_directory ((timeline w).object_of (node_at w x))) same ∙ good.dir; at = own_earlier (timeline w) past is.at; missing = ap (λ x. child (state_at w t).nodes (node_at w x) name) same ∙ none })
      (le_refl (suc t))))
  ends_missing deep none m past (holds handle names) same ahead = paid_by n 2 (suc n) 4 (omega arith)
      (ahead b m (le_trans past (le_trans is.at.later (le-suc t)))
      (at_missing deep follow name rest refl good.short t
      (record { dir = ap (λ x. is_directory ((timeline w).object_of (node_at w x))) same ∙ good.dir; at = own_earlier (timeline w) past is.at; missing = ap (λ x. child (state_at w t).nodes (node_at w x) name) same ∙ none })
      (le_refl (suc t))))

  missing_for : (o : Bool) → (o ≡ true → inner ≡ []) → (m : ℕ) → o ≡ true → Ahead w end texts [] (Named follow name ∷ rest) (spot_at w position b m) (suc n) 4
      → AheadFor w end texts o (Named follow name) inner rest (spot_at w position b m) (suc n) 4
  missing_for false alone m e ahead = absurd (false≢true e)
  missing_for true alone m e ahead = subst (λ i. Ahead w end texts i (Named follow name ∷ rest) (spot_at w position b m) (suc n) 4) (sym (alone refl)) ahead

  -- a missing name
  missing : child (state_at w t).nodes (node_at w position) name ≡ None
      → Then (take w.way room (opening position own follow name (todo inner rest b)) (Refused NotFound)) → Before
  missing none ahead = on (is_deepest w.way.goal && own) refl ahead
    where
      on : (x : Bool) → (is_deepest w.way.goal && own) ≡ x → Then (if x then at_end position (Named follow name ∷ rest) else gives_up (handles_of position) NotFound) → Before
      on true e a = λ m past. missing_for own alone m (and_parts (is_deepest w.way.goal) own e).1
          (ends_missing (and_parts (is_deepest w.way.goal) own e).0 none m past position refl a)
      on false e a = stopped (handles_of position) (two_at_most (length (handles_of position)) (one_handle position)) NotFound
          (tells_whole w (failed NotFound) [] (spot_at w position b now) (Some (Named follow name)) refl
          (λ stop few exact. (
            record {
              to = spot_at w position b now;
              follow = follow;
              name = name;
              stop = stop;
              within = λ deep. within_link w own (Named follow name) position (todo inner rest b) good.going
                  (λ q. false≢true (sym e ∙ and_from (is_deepest w.way.goal) own deep q));
              short = good.short;
              when = t;
              missing = record { dir = good.dir; at = is.at; missing = none };
            },
            few,
          ))) a

  module _ (c : ℕ) (what : Object) (child_is : child (state_at w t).nodes (node_at w position) name ≡ Some c)
      (is_what : object_at (state_at w t).nodes c ≡ Some what)
      (new : IsMore (state_at w t) w.actor (state_at w (suc t)) (length (state_at w t).handles) c) where
    abbrev opened_handle : Handle
    opened_handle = record { number = length (state_at w t).handles; node = c; kind = kind_of what }

    new_held : IsHeld w (suc t) opened_handle
    new_held = record { is_open = new.is_open; what = what; is_what = lived.objects t c what is_what; kind = refl }

    -- what was opened is held, and what was held is closed
    entered : is_entered follow (Some what) ≡ true → (r : Bool) → Then (enters w.way r position name opened_handle (todo inner rest b)) → Before
    entered is_in true ahead = λ m past. passed_alone (spot_at w position b m) texts n (length (handles_of position) + 4) (suc n) 4 own (Named follow name) inner rest alone
        (opened_pays n (length (handles_of position)) (one_handle position))
        (λ ps z next trail. (down t c (child_at m c past child_is) (ap (is_entered follow) (lived.objects t c what is_what) ∙ is_in) trail, refl))
        (closes_ahead lived end texts (suc t) n (handles_of position) (holds opened_handle (name ∷ names_of position))
        (λ e. absurd (names_not_empty name (names_of position) e)) new_held inner rest b ahead (suc t) (le_refl (suc t)))
    entered is_in false ahead = gave_up_both (length (state_at w t).handles) NoMemory (on_the_way w) ahead

    -- a link that must be followed
    linked : (text : List ℕ) → what ≡ Link text → follow ≡ true → Then (follows_link w.way position opened_handle (todo inner rest b)) → Before
    linked text l f ahead = on b refl ahead
      where
        is_link : (timeline w).object_of c ≡ Some (Link text)
        is_link = lived.objects t c what is_what ∙ ap Some l

        looped : (b ≡ 0) ⊎ (w.way.flags.no_links ≡ true) → Then (gives_up (length (state_at w t).handles ∷ handles_of position) Loop) → Before
        looped why a = stopped (length (state_at w t).handles ∷ handles_of position) (three_at_most (length (handles_of position)) (one_handle position)) Loop
            (subst (λ g. TellsOf w (failed Loop) [] (spot_at w position b now) (Some (Named g name))) (sym f)
            (tells_whole w (failed Loop) [] (spot_at w position b now) (Some (Named true name)) refl
            (λ stop few exact. (
              record {
                to = spot_at w position b now;
                name = name;
                stop = stop;
                used_up = why;
                text = text;
                when = t;
                link = record { dir = good.dir; short = good.short; at = is.at; link = c; child = child_is; is_link = is_link };
              },
              few,
            )))) a

        on_flag : (k : ℕ) → b ≡ suc k → (x : Bool) → w.way.flags.no_links ≡ x
            → Then (if x then gives_up (length (state_at w t).handles ∷ handles_of position) Loop else more (reading position opened_handle (todo inner rest k))) → Before
        on_flag k e true q a = looped (inr q) a
        on_flag k e false q a = λ m past.
            subst (λ g. AheadFor w end texts own (Named g name) inner rest (spot_at w position b m) (suc n) 4) (sym f)
            (subst (λ l. AheadFor w end texts own (Named true name) inner rest (spot_at w position l m) (suc n) 4) (sym e)
            (paid_for w end texts n 3 (suc n) 4 own (Named true name) inner rest (spot_at w position (suc k) m) (omega arith)
            (a own alone name m t text
            (subst (λ l. IsChildAt (timeline w) (spot_at w position l m) name t c) e (child_at m c past child_is))
            (le_refl (suc t)) q is_link)))

        on : (k : ℕ) → b ≡ k → Then (follows_link w.way position opened_handle (todo inner rest k)) → Before
        on zero e a = looped (inl e) a
        on (suc k) e a = on_flag k e w.way.flags.no_links refl a

    opened_ahead : Then (opened w.way room position follow name opened_handle (todo inner rest b)) → Before
    opened_ahead ahead = on follow refl what refl
      where
        after : Bool → Turn
        after x = if x then follows_link w.way position opened_handle (todo inner rest b) else enters w.way room position name opened_handle (todo inner rest b)

        enters_it : (g : Bool) → follow ≡ g → (o : Object) → what ≡ o → is_followed g (kind_of o) ≡ false → is_entered g (Some o) ≡ true → Before
        enters_it g f o l not_followed is_in =
            let q : is_followed follow (kind_of what) ≡ is_followed g (kind_of o) = λ i. is_followed (f i) (kind_of (l i)) in
            let r : is_entered follow (Some what) ≡ is_entered g (Some o) = λ i. is_entered (f i) (Some (l i)) in
            entered (r ∙ is_in) room (subst Then (ap after (q ∙ not_followed)) ahead)

        on : (g : Bool) → follow ≡ g → (o : Object) → what ≡ o → Before
        on true f Dir l = enters_it true f Dir l refl refl
        on true f File l = enters_it true f File l refl refl
        on true f (Link text) l =
            let q : is_followed follow (kind_of what) ≡ true = λ i. is_followed (f i) (kind_of (l i)) in
            linked text l f (subst Then (ap after q) ahead)
        on false f Dir l = enters_it false f Dir l refl refl
        on false f File l = enters_it false f File l refl refl
        on false f (Link text) l = enters_it false f (Link text) l refl refl

  as_told : (v : Answer) → answer ≡ v → Then (take w.way room (opening position own follow name (todo inner rest b)) answer)
      → Then (take w.way room (opening position own follow name (todo inner rest b)) v)
  as_told v e ahead = subst (λ u. Then (take w.way room (opening position own follow name (todo inner rest b)) u)) e ahead

  on_opening : (c : ℕ) → child (state_at w t).nodes (node_at w position) name ≡ Some c
      → outcome (state_at w t) w.actor (Open (handle_at w.way position) name) ≡ opens (state_at w t) w.actor c
      → Opening (state_at w t) w.actor c (opens (state_at w t) w.actor c)
      → Then (take w.way room (opening position own follow name (todo inner rest b)) answer) → Before
  on_opening c e o (too_many f q) ahead = gave_up TooMany (on_the_way w) (as_told (Refused TooMany) (is.told ∙ ap (λ r. r.answer) (o ∙ q)) ahead)
  on_opening c e o (no_object z q) ahead =
      absurd (object_at-place (state_at w t).nodes c (entry (node_at w position) name) (place_at-child (state_at w t).nodes (node_at w position) name c e) z)
  on_opening c e o (is_opened what z q) ahead =
      opened_ahead c what e z (more_on is c (ap (λ r. r.after) (o ∙ q)))
      (as_told (Opened (length (state_at w t).handles) c (kind_of what)) (is.told ∙ ap (λ r. r.answer) (o ∙ q)) ahead)

  is_there : held_at w t (handle_at w.way position) ≡ Some (node_at w position)
  is_there = is.kept (handle_at w.way position) ∙ position_open lived now position good.position_held good.handles

  on_case : OpenCase (state_at w t) w.actor (node_at w position) name (outcome (state_at w t) w.actor (Open (handle_at w.way position) name))
      → Then (take w.way room (opening position own follow name (todo inner rest b)) answer) → Before
  on_case (no_dir e o) ahead = absurd (false≢true (sym e ∙ dir_at lived t (handle_at w.way position) (node_at w position) is_there ∙ good.dir))
  on_case (no_child c o) ahead = missing c (as_told (Refused NotFound) (is.told ∙ ap (λ r. r.answer) o) ahead)
  on_case (at_child c e o) ahead = on_opening c e o (opening_of (state_at w t) w.actor c) ahead

  -- what the answer to an Open leads to
  pub opening_ahead : Then (take w.way room (opening position own follow name (todo inner rest b)) answer) → Before
  opening_ahead ahead = on_case (open_case (state_at w t) w.actor (handle_at w.way position) name (node_at w position) is_there) ahead
