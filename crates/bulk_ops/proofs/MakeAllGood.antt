-- What is known of a call under way: how far it came, what it did, what it holds; and that each answer keeps it.
use Rattle.std.specs.Prelude.{◌≡◌, ◌≢◌, ℕ, suc, ◌<◌, ◌≤◌, ◌⊎◌, List, [], ◌∷◌, ◌++◌, Bool, true, false, not, length, reverse, Option, Some, None, is_some, nat_le, Result, Ok, Err, refl}
use Rattle.std.proofs.Common.{sym, ap, subst, ◌∙◌, le_trans, inl, inr, arith}
use Rattle.std.proofs.lemmas.Bool.{false≢true}
use Rattle.std.proofs.lemmas.Option.{none-some, same_Some}
use Rattle.path_text.specs.declared.errno.Errno.{Errno}
use Rattle.path_text.specs.declared.errno.Errno.TheVariants.{NotFound, BadHandle, Exists, NotDir, TooMany}
use Rattle.path_text.specs.Names.{same_names}
use Rattle.tree_model.specs.declared.answer.Answer.{Answer}
use Rattle.tree_model.specs.declared.answer.Answer.TheVariants.{Names, NotBelow, Done}
use Rattle.tree_model.specs.declared.inode.Inode.{Inode}
use Rattle.tree_model.specs.declared.inode.Object.TheVariants.{Dir}
use Rattle.tree_model.specs.declared.step.StepOf.TheVariants.{NameBelow, MakeDir}
use Rattle.tree_model.specs.declared.tree.TheConstants.{NUMBERS_MAX}
use Rattle.tree_model.specs.State.{State, Stands, child, is_dir, is_directory, is_gone, names_below}
use Rattle.tree_model.specs.Entries.{refuse_if, with_some, makes}
use Rattle.tree_model.specs.Steps.{Outcome, outcome, refused, changes, shows, held}
use Rattle.tree_model.proofs.Standing.{Stands-names_below}
use Rattle.tree_model.proofs.PlaceLaws.{below_is}
use Rattle.step_resolver.specs.Trail.{Spot, IsOwnFrom}
use Rattle.step_resolver.specs.Order.{Handle, is_dir_kind}
use Rattle.step_resolver.specs.WalkHistory.{WalkInHistory, state_at, timeline}
use Rattle.step_resolver.specs.Headline.{StoodAt}
use Rattle.handles.proofs.SameNames.{same_where_equal}
use Rattle.step_resolver.proofs.Underway.WalkInvariant.{Lived, StepAt, held_at, HandlesAre, IsHeld, held_kept}
use Rattle.step_resolver.proofs.Underway.AfterParent.{names_same, reversed_same}
use Rattle.step_resolver.proofs.Underway.HandlesHeld.{kept_on}
use Rattle.step_resolver.proofs.Underway.LegalHistory.{IsAlone, before_or_from}
use Rattle.bulk_ops.specs.MakeAllOrder.{Making, walking, making, opening, leaving, ending, closing, MakeTurn, more, made, failed, rest_fault, rest_names, gives_up, goes_down}
use Rattle.bulk_ops.specs.MakeAllTells.{OpenedDown, DeepestAt, start_of, Reach, begun, MayDo, Cause, IsThere}
use Rattle.bulk_ops.specs.WalkFirst.{LeavesEntries}

-- ---- what is known

abbrev pub DidUntil : (w : WalkInHistory) → Reach w → ℕ → Type 0
DidUntil w reach now = (t : ℕ) → (timeline w).is_own t ≡ true → t < now → MayDo w reach t

-- a directory is held, to which some names of the rest led; and these are left
pub record Chained (w : WalkInHistory) (now : ℕ) (p : DeepestAt w) (held : Handle) (names left : List (List ℕ)) : Type 0 where
  pub whole : rest_fault p.rest ≡ None
  pub passed : List (List ℕ)
  pub split : rest_names p.rest ≡ reverse passed ++ left
  pub to : Spot
  pub down : OpenedDown (timeline w) (start_of p) passed to
  pub node : to.node ≡ held.node
  pub at_names : to.names ≡ names
  pub names_are : names ≡ passed ++ p.names
  pub past : to.moment ≤ now
  pub dir : is_directory ((timeline w).object_of to.node) ≡ true
  pub kind : is_dir_kind held.kind ≡ true
  pub is_held : IsHeld w now held

pub record OnWay (w : WalkInHistory) (now : ℕ) (held : Handle) (names left : List (List ℕ)) (hs : List ℕ) : Type 0 where
  pub p : DeepestAt w
  pub chained : Chained w now p held names left
  pub handles : HandlesAre w now hs
  pub did : DidUntil w (begun p) now

-- it fails for this, once these are closed
pub record Failing (w : WalkInHistory) (now : ℕ) (error : Errno) (hs : List ℕ) : Type 0 where
  pub reach : Reach w
  pub did : DidUntil w reach now
  pub cause : Cause w reach error
  pub handles : HandlesAre w now hs

-- the last directory, when it was asked where that stands
pub record LastAt (w : WalkInHistory) (now : ℕ) (p : DeepestAt w) (handle : Handle) (names : List (List ℕ)) : Type 0 where
  pub chained : Chained w now p handle names []
  pub when : ℕ
  pub is_now : now ≡ suc when
  pub stood : StoodAt w chained.to when

pub record MadeNow (w : WalkInHistory) (now : ℕ) (handle : Handle) (names : List (List ℕ)) : Type 0 where
  pub p : DeepestAt w
  pub did : DidUntil w (begun p) now
  pub last : LastAt w now p handle names
  pub handles : HandlesAre w now (handle.number ∷ [])

-- the event before this moment was the MakeDir of the next name, which was made then, or was there
pub record Shown (w : WalkInHistory) (now h : ℕ) (n : List ℕ) (dir : Spot) : Type 0 where
  pub first : ℕ
  pub is_now : now ≡ suc first
  pub at : IsOwnFrom (timeline w) dir.moment first
  pub there : IsThere w dir.node h n first

pub record OnWayIn (w : WalkInHistory) (now : ℕ) (held : Handle) (names : List (List ℕ)) (n : List ℕ) (left : List (List ℕ)) : Type 0 where
  pub way : OnWay w now held names (n ∷ left) (held.number ∷ [])
  pub shown : Shown w now held.number n way.chained.to

-- the walk is over
abbrev pub GoodCall : WalkInHistory → ℕ → Making → Type 0
GoodCall w now (walking walker) = ⊥
GoodCall w now (making held names n left) = OnWay w now held names (n ∷ left) (held.number ∷ [])
GoodCall w now (opening held names n left) = OnWayIn w now held names n left
GoodCall w now (leaving old new names left) = OnWay w now new names left (old ∷ new.number ∷ []) × (new.number ≢ old)
GoodCall w now (ending held names) = OnWay w now held names [] (held.number ∷ [])
GoodCall w now (closing h hs error) = Failing w now error (h ∷ hs)

abbrev pub GoodTurn : WalkInHistory → ℕ → MakeTurn → Type 0
GoodTurn w now (more call) = GoodCall w now call
GoodTurn w now (made handle names) = MadeNow w now handle names
GoodTurn w now (failed error) = Failing w now error []

-- ---- small facts

pub did_further : {w : WalkInHistory} {now t : ℕ} (reach : Reach w) → DidUntil w reach now → IsAlone w now t → MayDo w reach t → DidUntil w reach (suc t)
did_further {w} {now} {t} reach did alone here j own less = on (before_or_from j now) (before_or_from j t)
  where
    on : (suc j ≤ now) ⊎ (now ≤ j) → (suc j ≤ t) ⊎ (t ≤ j) → MayDo w reach j
    on (inl before) other = did j own (omega (arith, before))
    on (inr after) (inl before) = absurd (false≢true (sym (alone.none j after before) ∙ own))
    on (inr after) (inr from) =
        let same : t ≡ j = omega (arith, less, from) in
        subst (MayDo w reach) same here

pub gives_up_good : {w : WalkInHistory} {now : ℕ} (hs : List ℕ) (error : Errno) → Failing w now error hs → GoodTurn w now (gives_up hs error)
gives_up_good [] error failing = failing
gives_up_good (h ∷ hs) error failing = failing

pub goes_down_good : {w : WalkInHistory} {now : ℕ} (held : Handle) (names left : List (List ℕ)) → OnWay w now held names left (held.number ∷ [])
    → GoodTurn w now (goes_down held names left)
goes_down_good held names [] way = way
goes_down_good held names (n ∷ left) way = way

abbrev pub chained_later : {w : WalkInHistory} {now k : ℕ} {p : DeepestAt w} {held : Handle} {names left : List (List ℕ)} → now ≤ k
    → ((h : ℕ) → held_at w k h ≡ held_at w now h) → Chained w now p held names left → Chained w k p held names left
chained_later le kept c = record {
  whole = c.whole;
  passed = c.passed;
  split = c.split;
  to = c.to;
  down = c.down;
  node = c.node;
  at_names = c.at_names;
  names_are = c.names_are;
  past = le_trans c.past le;
  dir = c.dir;
  kind = c.kind;
  is_held = held_kept kept c.is_held;
}

-- ---- MakeDir

abbrev pub with_directory : State → ℕ → List ℕ → List Inode
with_directory s d n = s.nodes ++ record { object = Dir; place = Some (record { parent = d; name = n }) } ∷ []

-- what MakeDir is answered in a directory
pub data MakeCase (s : State) (d : ℕ) (n : List ℕ) (o : Outcome) : Type 0 where
  dir_gone : is_gone s.nodes d ≡ true → o ≡ refused s NotFound → MakeCase s d n o
  is_there : (x : ℕ) → child s.nodes d n ≡ Some x → o ≡ refused s Exists → MakeCase s d n o
  no_number : nat_le NUMBERS_MAX (length s.nodes) ≡ true → o ≡ refused s TooMany → MakeCase s d n o
  is_made : is_gone s.nodes d ≡ false → makes s.nodes d n Dir ≡ Ok (with_directory s d n)
      → o ≡ record { answer = Done; after = record { nodes = with_directory s d n; handles = s.handles } }
      → MakeCase s d n o

module _ (s : State) (d : ℕ) (n : List ℕ) where
  abbrev with_number : Bool → Result (List Inode) Errno
  with_number b = refuse_if b (Err TooMany) (Ok (with_directory s d n))

  abbrev with_name : Bool → Result (List Inode) Errno
  with_name b = refuse_if b (Err Exists) (with_number (nat_le NUMBERS_MAX (length s.nodes)))

  abbrev in_place : Bool → Result (List Inode) Errno
  in_place b = refuse_if b (Err NotFound) (with_name (is_some (child s.nodes d n)))

  abbrev in_dir : Bool → Result (List Inode) Errno
  in_dir b = refuse_if (not b) (Err NotDir) (in_place (is_gone s.nodes d))

  made_of : is_dir s.nodes d ≡ true → MakeCase s d n (changes s (makes s.nodes d n Dir))
  made_of dir = on_gone (is_gone s.nodes d) refl
    where
      to_place : makes s.nodes d n Dir ≡ in_place (is_gone s.nodes d)
      to_place = ap in_dir dir

      on_number : is_gone s.nodes d ≡ false → makes s.nodes d n Dir ≡ with_number (nat_le NUMBERS_MAX (length s.nodes))
          → (b : Bool)
          → nat_le NUMBERS_MAX (length s.nodes) ≡ b → MakeCase s d n (changes s (makes s.nodes d n Dir))
      on_number g q true e = no_number e (ap (changes s) (q ∙ ap with_number e))
      on_number g q false e = is_made g (q ∙ ap with_number e) (ap (changes s) (q ∙ ap with_number e))

      on_name : is_gone s.nodes d ≡ false → makes s.nodes d n Dir ≡ with_name (is_some (child s.nodes d n))
          → (o : Option ℕ) → child s.nodes d n ≡ o
          → MakeCase s d n (changes s (makes s.nodes d n Dir))
      on_name g q (Some x) e = is_there x e (ap (changes s) (q ∙ ap (λ o. with_name (is_some o)) e))
      on_name g q None e = on_number g (q ∙ ap (λ o. with_name (is_some o)) e)
          (nat_le NUMBERS_MAX (length s.nodes)) refl

      on_gone : (b : Bool) → is_gone s.nodes d ≡ b → MakeCase s d n (changes s (makes s.nodes d n Dir))
      on_gone true e = dir_gone e (ap (changes s) (to_place ∙ ap in_place e))
      on_gone false e = on_name e (to_place ∙ ap in_place e) (child s.nodes d n) refl

pub make_case : (s : State) (a h : ℕ) (n : List ℕ) (d : ℕ) → held s a h ≡ Some d → is_dir s.nodes d ≡ true → MakeCase s d n (outcome s a (MakeDir h n))
make_case s a h n d e dir =
    subst (MakeCase s d n) (sym (ap (λ o. with_some o (refused s BadHandle) (λ x. changes s (makes s.nodes x n Dir))) e)) (made_of s d n dir)

-- ---- NameBelow

-- what it is answered where both handles are open, and that it changes nothing
pub data BelowCase (w : WalkInHistory) (u : ℕ) (node : ℕ) (names : List (List ℕ)) (answer : Answer) : Type 0 where
  stands_there : (told : List (List ℕ)) → answer ≡ Names told → same_names told (reverse names) ≡ true
      → Stands (state_at w u).nodes w.root node names → BelowCase w u node names answer
  stands_elsewhere : (told : List (List ℕ)) → answer ≡ Names told → same_names told (reverse names) ≡ false
      → (Stands (state_at w u).nodes w.root node names → ⊥) → BelowCase w u node names answer
  stands_nowhere : answer ≡ NotBelow → (Stands (state_at w u).nodes w.root node names → ⊥) → BelowCase w u node names answer

shows_keeps : (s : State) (o : Option (List (List ℕ))) → (shows s o).after ≡ s
shows_keeps s None = refl
shows_keeps s (Some names) = refl

module _ {w : WalkInHistory} (lived : Lived w) (m u h node : ℕ) (names : List (List ℕ)) (answer : Answer) (is : StepAt w m u (NameBelow w.way.root h) answer)
    (root_is : held_at w m w.way.root ≡ Some w.root) (handle_is : held_at w m h ≡ Some node) where
  outcome_is : outcome (state_at w u) w.actor (NameBelow w.way.root h) ≡ shows (state_at w u) (names_below (state_at w u).nodes w.root node)
  outcome_is = below_is (state_at w u) w.actor w.way.root h w.root node (is.kept w.way.root ∙ root_is) (is.kept h ∙ handle_is)

  pub below_kept : (k : ℕ) → held_at w (suc u) k ≡ held_at w m k
  below_kept = kept_on is (ap (λ r. r.after) outcome_is ∙ shows_keeps (state_at w u) (names_below (state_at w u).nodes w.root node))

  pub below_nodes : LeavesEntries w u
  below_nodes = ap (λ s. s.nodes) (is.after ∙ ap (λ r. r.after) outcome_is ∙ shows_keeps (state_at w u) (names_below (state_at w u).nodes w.root node))

  pub below_case : BelowCase w u node names answer
  below_case = on_told (names_below (state_at w u).nodes w.root node) refl
    where
      answer_is : (o : Option (List (List ℕ))) → names_below (state_at w u).nodes w.root node ≡ o → answer ≡ (shows (state_at w u) o).answer
      answer_is o q = is.told ∙ ap (λ r. r.answer) (outcome_is ∙ ap (shows (state_at w u)) q)

      on_test : (told : List (List ℕ)) → names_below (state_at w u).nodes w.root node ≡ Some told → (b : Bool) → same_names (reverse told) (reverse names) ≡ b
          → BelowCase w u node names answer
      on_test told q true e = stands_there (reverse told) (answer_is (Some told) q) e
          (Stands-names_below (state_at w u).nodes w.root node names (q ∙ ap Some (reversed_same told names (names_same (reverse told) (reverse names) e))))
      on_test told q false e = stands_elsewhere (reverse told) (answer_is (Some told) q) e
          (λ stands. false≢true (sym e ∙ same_where_equal (reverse told) (reverse names) (ap reverse (same_Some told names (sym q ∙ lived.below u node names stands)))))

      on_told : (o : Option (List (List ℕ))) → names_below (state_at w u).nodes w.root node ≡ o → BelowCase w u node names answer
      on_told None q = stands_nowhere (answer_is None q) (λ stands. none-some names (sym q ∙ lived.below u node names stands))
      on_told (Some told) q = on_test told q (same_names (reverse told) (reverse names)) refl
