-- What a legal history holds at each of its moments, and that a walk's lines happen in it.
use Rattle.std.specs.Prelude.{◌≡◌, ℕ, zero, suc, ◌+◌, ◌-◌, ◌≤◌, ◌==◌, ◌⊎◌, List, [], ◌∷◌, Bool, true, false, cond, length, slice_get, Option, Some, None, refl}
use Rattle.std.proofs.Common.{sym, ap, subst, ◌∙◌, inl, inr, le_refl, le_trans, not-suc-le-zero, le_of_suc-le-suc, arith}
use Rattle.std.proofs.Math.Nat.{le-suc}
use Rattle.std.proofs.lemmas.Bool.{eqb-false}
use Rattle.tree_model.specs.declared.answer.Answer.{Answer}
use Rattle.tree_model.specs.declared.answer.Event.{Event}
use Rattle.tree_model.specs.declared.inode.Object.{Object}
use Rattle.tree_model.specs.StepWith.{StepWith}
use Rattle.tree_model.specs.State.{State, object_at, is_directory}
use Rattle.tree_model.specs.Steps.{outcome, held}
use Rattle.tree_model.specs.Trees.{IsState}
use Rattle.tree_model.specs.History.{IsLegal, after_event, after_events, tree_at}
use Rattle.tree_model.specs.StepLaws.{OthersHandlesStay, NodesAreLeft}
use Rattle.tree_model.specs.PlaceLaws.{StandsAtOneWay, NamesBelowAreStanding}
use Rattle.tree_model.specs.HistoryLaws.{HistoriesKeepTrees, ObjectsStayForGood}
use Rattle.step_resolver.specs.Trail.{is_by}
use Rattle.step_resolver.specs.Order.{Line, answered, no_room, not_made, events_of}
use Rattle.step_resolver.specs.WalkHistory.{WalkInHistory, begin_of, end_of, state_at, timeline, own_events, IsWalkInHistory}
use Rattle.step_resolver.proofs.Underway.WalkInvariant.{Lived, StepAt, Happens, held_at}

-- the laws of trees that are used
pub record TreeLaws : Type 0 where
  pub trees : HistoriesKeepTrees
  pub objects : ObjectsStayForGood
  pub others : OthersHandlesStay
  pub below : NamesBelowAreStanding
  pub one_way : StandsAtOneWay
  pub nodes : NodesAreLeft

pub last_moment : (s : State) (events : List Event) → (m : ℕ) → length events ≤ m → tree_at s events m ≡ after_events s events
last_moment s [] zero le = refl
last_moment s [] (suc m) le = refl
last_moment s (event ∷ events) zero le = absurd (not-suc-le-zero le)
last_moment s (event ∷ events) (suc m) le = last_moment (after_event s event) events m (le_of_suc-le-suc le)

-- what a node is at any moment it is at the end
objects_to_end : TreeLaws → (s : State) (events : List Event) (m x : ℕ) (object : Object)
    → object_at (tree_at s events m).nodes x ≡ Some object → object_at (after_events s events).nodes x ≡ Some object
objects_to_end laws s events m x object e =
    subst (λ t. object_at t.nodes x ≡ Some object) (last_moment s events (m + length events) (omega arith))
    (laws.objects s events m (m + length events) x object (omega arith) e)

pub begins_as_tree : TreeLaws → (w : WalkInHistory) → IsWalkInHistory w → IsState (begin_of w)
begins_as_tree laws w is = (laws.trees w.opening w.before is.tree).0

pub lived : TreeLaws → (w : WalkInHistory) → IsWalkInHistory w → Lived w
lived laws w is = record {
  states = λ m. (laws.trees (begin_of w) w.window begin_is).1 m;
  objects = λ m x object e. objects_to_end laws (begin_of w) w.window m x object e;
  below = λ m x names stands. ((laws.below (state_at w m).nodes ((laws.trees (begin_of w) w.window begin_is).1 m).tree w.root x).0 names).1 stands;
  root = is.root;
  root_is_dir = on (object_at (begin_of w).nodes w.root) refl;
}
  where
    begin_is : IsState (begin_of w)
    begin_is = begins_as_tree laws w is

    on : (o : Option Object) → object_at (begin_of w).nodes w.root ≡ o → is_directory (object_at (end_of w).nodes w.root) ≡ true
    on None e = cc (sym (ap is_directory e) ∙ is.root_is_dir)
    on (Some object) e = ap is_directory (objects_to_end laws (begin_of w) w.window 0 w.root object e ∙ sym e) ∙ is.root_is_dir

-- ---- the walk's lines in the window

-- these events are what is left of the window at moment m, in the state as it is then
pub record IsRest (w : WalkInHistory) (m : ℕ) (s : State) (rest : List Event) : Type 0 where
  pub states : (j k : ℕ) → j ≡ m + k → state_at w j ≡ tree_at s rest k
  pub events : (j k : ℕ) → j ≡ m + k → slice_get w.window j ≡ slice_get rest k
  pub ends : end_of w ≡ after_events s rest

pub one_less : {w : WalkInHistory} {m : ℕ} {s : State} {event : Event} {rest : List Event} → IsRest w m s (event ∷ rest) → IsRest w (suc m) (after_event s event) rest
one_less is = record {
  states = λ j k e. is.states j (suc k) (omega arith);
  events = λ j k e. is.events j (suc k) (omega arith);
  ends = is.ends;
}

pub cons_not_nil : {A : Type 0} (x : A) (xs : List A) → x ∷ xs ≡ [] → ⊥
cons_not_nil x xs e = cc (e)

head_of : {A : Type 0} → A → List A → A
head_of d [] = d
head_of d (x ∷ xs) = x

tail_of : {A : Type 0} → List A → List A
tail_of [] = []
tail_of (x ∷ xs) = xs

pub same_head : {A : Type 0} (x y : A) (xs ys : List A) → x ∷ xs ≡ y ∷ ys → x ≡ y
unfolding head_of
same_head x y xs ys e = ap (head_of x) e

pub same_tail : {A : Type 0} (x y : A) (xs ys : List A) → x ∷ xs ≡ y ∷ ys → xs ≡ ys
unfolding tail_of
same_tail x y xs ys e = ap tail_of e

-- a step of another leaves the actor's handles
pub other_keeps : OthersHandlesStay → (a : ℕ) (s : State) (event : Event) → (event.actor == a) ≡ false → (h : ℕ) → held (after_event s event) a h ≡ held s a h
other_keeps others a s event e h = others s event.actor event.step a h (λ q. eqb-false event.actor a e (sym q))

-- while the actor does nothing its handles stay
pub nothing_more : OthersHandlesStay → (a : ℕ) (rest : List Event) (s : State) → own_events a rest ≡ [] → (h : ℕ) → held (after_events s rest) a h ≡ held s a h
nothing_more others a [] s e h = refl
nothing_more others a (event ∷ rest) s e h = on (event.actor == a) refl (λ q. nothing_more others a rest (after_event s event) q h)
  where
    on : (b : Bool) → (event.actor == a) ≡ b
        → (own_events a rest ≡ [] → held (after_events (after_event s event) rest) a h ≡ held (after_event s event) a h)
        → held (after_events (after_event s event) rest) a h ≡ held s a h
    on true q more = absurd (cons_not_nil event (own_events a rest) (sym (ap (λ b. cond b (event ∷ own_events a rest) (own_events a rest)) q) ∙ e))
    on false q more =
        more (sym (ap (λ b. cond b (event ∷ own_events a rest) (own_events a rest)) q) ∙ e) ∙ other_keeps others a s event q h

-- at the beginning all of the window is left
pub whole_rest : (w : WalkInHistory) → IsRest w 0 (begin_of w) w.window
whole_rest w = record {
  states = λ j k e. ap (state_at w) (same_number j k e);
  events = λ j k e. ap (slice_get w.window) (same_number j k e);
  ends = refl;
}
  where
    same_number : (j k : ℕ) → j ≡ 0 + k → j ≡ k
    same_number j k e = omega arith

-- ---- and the actor does nothing between them

-- from m on the actor does nothing before t
pub record IsAlone (w : WalkInHistory) (m t : ℕ) : Type 0 where
  pub none : (k : ℕ) → m ≤ k → suc k ≤ t → (timeline w).is_own k ≡ false

pub record AloneAt (w : WalkInHistory) (m t : ℕ) (step : StepWith ℕ) (answer : Answer) : Type 0 where
  pub made : StepAt w m t step answer
  pub alone : IsAlone w m t

pub record Rests (w : WalkInHistory) (m : ℕ) : Type 0 where
  pub kept : (h : ℕ) → held (end_of w) w.actor h ≡ held_at w m h
  pub alone : (k : ℕ) → m ≤ k → (timeline w).is_own k ≡ false

-- the lines happen from moment m on, and the actor does nothing else
abbrev pub HappensAlone : WalkInHistory → ℕ → List Line → Type 0
HappensAlone w m [] = Rests w m
HappensAlone w m (answered step answer ∷ lines) = (t : ℕ) × (AloneAt w m t step answer × HappensAlone w (suc t) lines)
HappensAlone w m (no_room step answer ∷ lines) = (t : ℕ) × (AloneAt w m t step answer × HappensAlone w (suc t) lines)
HappensAlone w m (not_made error ∷ lines) = HappensAlone w m lines

-- a moment is before that one, or not
pub before_or_from : (k m : ℕ) → (suc k ≤ m) ⊎ (m ≤ k)
before_or_from zero zero = inr (omega arith)
before_or_from zero (suc m) = inl (omega arith)
before_or_from (suc k) zero = inr (omega arith)
before_or_from (suc k) (suc m) = on (before_or_from k m)
  where
    on : (suc k ≤ m) ⊎ (m ≤ k) → (suc (suc k) ≤ suc m) ⊎ (suc m ≤ suc k)
    on (inl less) = inl (omega arith)
    on (inr more) = inr (omega arith)

pub less_or_same : (k m : ℕ) → suc k ≤ suc m → (suc k ≤ m) ⊎ (k ≡ m)
less_or_same zero zero le = inr refl
less_or_same zero (suc m) le = inl (omega arith)
less_or_same (suc k) zero le = absurd (not-suc-le-zero (le_of_suc-le-suc le))
less_or_same (suc k) (suc m) le = on (less_or_same k m (le_of_suc-le-suc le))
  where
    on : (suc k ≤ m) ⊎ (k ≡ m) → (suc (suc k) ≤ suc m) ⊎ (suc k ≡ suc m)
    on (inl less) = inl (omega arith)
    on (inr same) = inr (ap suc same)

pub not_below : (k : ℕ) → suc k ≤ k → ⊥
not_below zero le = not-suc-le-zero le
not_below (suc k) le = not_below k (le_of_suc-le-suc le)

-- the next event, and what is left after it
record IsNext (w : WalkInHistory) (n : ℕ) (step : StepWith ℕ) (answer : Answer) (others : List Event) : Type 0 where
  pub t : ℕ
  pub state : State
  pub rest : List Event
  pub at : AloneAt w n t step answer
  pub is_rest : IsRest w (suc t) state rest
  pub legal : IsLegal state rest
  pub own : own_events w.actor rest ≡ others
  pub kept : (h : ℕ) → held state w.actor h ≡ held_at w (suc t) h

module _ (others_stay : OthersHandlesStay) (w : WalkInHistory) where
  -- the own events of what is left, by whose its first is
  not_own : (event : Event) (rest : List Event) (others : List Event) → (event.actor == w.actor) ≡ false
      → own_events w.actor (event ∷ rest) ≡ others
      → own_events w.actor rest ≡ others
  not_own event rest others q e = sym (ap (λ b. cond b (event ∷ own_events w.actor rest) (own_events w.actor rest)) q)
      ∙ e

  is_own : (event : Event) (rest : List Event) (others : List Event) → (event.actor == w.actor) ≡ true
      → own_events w.actor (event ∷ rest) ≡ others
      → event ∷ own_events w.actor rest ≡ others
  is_own event rest others q e = sym (ap (λ b. cond b (event ∷ own_events w.actor rest) (own_events w.actor rest)) q)
      ∙ e

  -- one moment more without an own event
  longer : {n m : ℕ} → IsAlone w n m → (timeline w).is_own m ≡ false → IsAlone w n (suc m)
  longer {n} {m} alone e = record { none = λ k from le. on k from (less_or_same k m le) }
    where
      on : (k : ℕ) → n ≤ k → (suc k ≤ m) ⊎ (k ≡ m) → (timeline w).is_own k ≡ false
      on k from (inl less) = alone.none k from less
      on k from (inr same) = ap (timeline w).is_own same ∙ e

  at_first : {m : ℕ} {s : State} {event : Event} {rest : List Event} → IsRest w m s (event ∷ rest)
      → (timeline w).is_own m ≡ (event.actor == w.actor)
  at_first {m} is = ap (is_by w.actor) (is.events m 0 (omega arith))

  rests : (rest : List Event) (m n : ℕ) (s : State) → n ≤ m → IsRest w m s rest
      → ((h : ℕ) → held s w.actor h ≡ held_at w n h) → IsAlone w n m
      → own_events w.actor rest ≡ [] → Rests w n
  rests [] m n s le is kept alone e = record {
    kept = λ h. ap (λ x. held x w.actor h) is.ends ∙ kept h;
    alone = λ k from. on k from (before_or_from k m);
  }
    where
      on : (k : ℕ) → n ≤ k → (suc k ≤ m) ⊎ (m ≤ k) → (timeline w).is_own k ≡ false
      on k from (inl less) = alone.none k from less
      on k from (inr more) = ap (is_by w.actor) (is.events k (k - m) (omega arith))
  rests (event ∷ rest) m n s le is kept alone e = on (event.actor == w.actor) refl
      (λ k a q. rests rest (suc m) n (after_event s event) (le_trans le (le-suc m)) (one_less is) k a q)
    where
      on : (b : Bool) → (event.actor == w.actor) ≡ b
          → (((h : ℕ) → held (after_event s event) w.actor h ≡ held_at w n h) → IsAlone w n (suc m)
          → own_events w.actor rest ≡ [] → Rests w n) → Rests w n
      on true q more = absurd (cons_not_nil event (own_events w.actor rest) (is_own event rest [] q e))
      on false q more = more (λ h. other_keeps others_stay w.actor s event q h ∙ kept h)
          (longer alone (at_first is ∙ q)) (not_own event rest [] q e)

  next_event : (rest : List Event) (m n : ℕ) (s : State) (step : StepWith ℕ) (answer : Answer) (others : List Event) → n ≤ m → IsRest w m s rest → IsLegal s rest
      → ((h : ℕ) → held s w.actor h ≡ held_at w n h) → IsAlone w n m
      → own_events w.actor rest ≡ record { actor = w.actor; step = step; answer = answer } ∷ others → IsNext w n step answer others
  next_event [] m n s step answer others le is legal kept alone e = absurd (cons_not_nil _ others (sym e))
  next_event (event ∷ rest) m n s step answer others le is legal kept alone e =
      on (event.actor == w.actor) refl
      (λ k a q. next_event rest (suc m) n (after_event s event) step answer others (le_trans le (le-suc m))
      (one_less is) legal.1 k a q)
    where
      same_here : state_at w m ≡ s
      same_here = is.states m 0 (omega arith)

      same_after : state_at w (suc m) ≡ after_event s event
      same_after = is.states (suc m) 1 (omega arith)

      own_step : (event.actor == w.actor) ≡ true → event ≡ record { actor = w.actor; step = step; answer = answer }
          → own_events w.actor rest ≡ others → IsNext w n step answer others
      own_step q same rest_same = record {
        t = m;
        state = after_event s event;
        rest = rest;
        at = record {
          made = record {
            at = record { own = at_first is ∙ q; later = le };
            event = is.events m 0 (omega arith) ∙ ap Some same;
            kept = λ h. ap (λ x. held x w.actor h) same_here ∙ kept h;
            told = sym (ap (λ v. v.answer) same) ∙ legal.0 ∙ ap (λ v. (outcome s v.actor v.step).answer) same
                ∙ ap (λ x. (outcome x w.actor step).answer) (sym same_here);
            after = same_after ∙ ap (λ v. (outcome s v.actor v.step).after) same
                ∙ ap (λ x. (outcome x w.actor step).after) (sym same_here);
          };
          alone = alone;
        };
        is_rest = one_less is;
        legal = legal.1;
        own = rest_same;
        kept = λ h. ap (λ x. held x w.actor h) (sym same_after);
      }

      on : (b : Bool) → (event.actor == w.actor) ≡ b
          → (((h : ℕ) → held (after_event s event) w.actor h ≡ held_at w n h) → IsAlone w n (suc m)
          → own_events w.actor rest ≡ record { actor = w.actor; step = step; answer = answer } ∷ others → IsNext w n step answer others)
          → IsNext w n step answer others
      on true q more =
          let f = is_own event rest (record { actor = w.actor; step = step; answer = answer } ∷ others) q e in
          own_step q (same_head event _ (own_events w.actor rest) others f) (same_tail event _ (own_events w.actor rest) others f)
      on false q more = more (λ h. other_keeps others_stay w.actor s event q h ∙ kept h)
          (longer alone (at_first is ∙ q)) (not_own event rest _ q e)

  -- nothing lies between a moment and itself
  at_once : (m : ℕ) → IsAlone w m m
  at_once m = record { none = λ k from le. absurd (not_below k (le_trans le from)) }

  happen : (lines : List Line) (rest : List Event) (m n : ℕ) (s : State) → n ≤ m → IsRest w m s rest → IsLegal s rest
      → ((h : ℕ) → held s w.actor h ≡ held_at w n h) → IsAlone w n m
      → own_events w.actor rest ≡ events_of w.actor lines → HappensAlone w n lines
  happen [] rest m n s le is legal kept alone own = rests rest m n s le is kept alone own
  happen (answered step answer ∷ lines) rest m n s le is legal kept alone own =
      let next = next_event rest m n s step answer (events_of w.actor lines) le is legal kept alone own in (
        next.t,
        (
          next.at,
          happen lines next.rest (suc next.t) (suc next.t) next.state
              (le_refl (suc next.t)) next.is_rest next.legal next.kept (at_once (suc next.t)) next.own,
        ),
      )
  happen (no_room step answer ∷ lines) rest m n s le is legal kept alone own =
      let next = next_event rest m n s step answer (events_of w.actor lines) le is legal kept alone own in (
        next.t,
        (
          next.at,
          happen lines next.rest (suc next.t) (suc next.t) next.state
              (le_refl (suc next.t)) next.is_rest next.legal next.kept (at_once (suc next.t)) next.own,
        ),
      )
  happen (not_made error ∷ lines) rest m n s le is legal kept alone own =
      happen lines rest m n s le is legal kept alone own

  -- the lines happen in the window
  pub lines_happen_alone : IsLegal (begin_of w) w.window → own_events w.actor w.window ≡ events_of w.actor w.lines
      → HappensAlone w 0 w.lines
  lines_happen_alone legal own = happen w.lines w.window 0 0 (begin_of w) (le_refl 0) (whole_rest w) legal (λ h. refl)
      (at_once 0) own

  -- and from a later moment on, in what is left of it
  pub lines_happen_from : (lines : List Line) (rest : List Event) (m : ℕ) (s : State) → IsRest w m s rest
      → IsLegal s rest
      → ((h : ℕ) → held s w.actor h ≡ held_at w m h) → own_events w.actor rest ≡ events_of w.actor lines
      → HappensAlone w m lines
  lines_happen_from lines rest m s is legal kept own = happen lines rest m m s (le_refl m) is legal kept (at_once m) own

-- lines that happen alone happen
among_others : (w : WalkInHistory) (lines : List Line) (m : ℕ) → HappensAlone w m lines → Happens w m lines
among_others w [] m happen = happen.kept
among_others w (answered step answer ∷ lines) m happen = (
  happen.0,
  (happen.1.0.made, among_others w lines (suc happen.0) happen.1.1),
)
among_others w (no_room step answer ∷ lines) m happen = (
  happen.0,
  (happen.1.0.made, among_others w lines (suc happen.0) happen.1.1),
)
among_others w (not_made error ∷ lines) m happen = among_others w lines m happen

-- the walk's lines happen in its window
pub lines_happen : TreeLaws → (w : WalkInHistory) → IsWalkInHistory w → Happens w 0 w.lines
lines_happen laws w is = among_others w w.lines 0 (lines_happen_alone laws.others w is.legal is.own)
