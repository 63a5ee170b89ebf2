-- Line by line, a call's steps take their place among what others do.
use Rattle.std.proofs.Common.{◌≡◌, ◌≢◌, ℕ, suc, ◌+◌, ◌<◌, ◌≤◌, Bool, true, false, if◌then◌else◌, List, [], ◌∷◌, ◌++◌, length, Option, Some, None, slice_get, slice_set, refl, sym, ap, ◌∙◌, subst, eq-eqb, ne_eqb, arith}
use Rattle.std.specs.Prelude.{◌==◌}
use Rattle.std.specs.List.{AllByRecursion, count_by}
use Rattle.std.proofs.lemmas.Bool.{eqb-true, eqb-false, false≢true}
use Rattle.std.proofs.lemmas.Option.{none-some, slice_get_past}
use Rattle.path_text.specs.declared.errno.Errno.TheVariants.{BadHandle}
use Rattle.tree_model.specs.declared.answer.Answer.{Answer}
use Rattle.tree_model.specs.declared.answer.Answer.TheVariants.{Opened, Text, Names, NotBelow, Listed, Done, Refused}
use Rattle.tree_model.specs.declared.answer.Event.{Event}
use Rattle.tree_model.specs.declared.inode.OpenHandle.{OpenHandle}
use Rattle.tree_model.specs.declared.step.Kind.{Kind}
use Rattle.tree_model.specs.declared.step.StepOf.TheVariants as steps
use Rattle.tree_model.specs.declared.tree.TheConstants.{NUMBERS_MAX}
use Rattle.tree_model.specs.Entries.{with_some}
use Rattle.tree_model.specs.History.{IsLegal, after_events}
use Rattle.tree_model.specs.State.{State}
use Rattle.tree_model.specs.Steps.{held, held_count, is_held_by, node_held, outcome, refused, with_handle}
use Rattle.tree_model.specs.StepLaws.{closed_count, is_close_of, only_tells, opened_count}
use Rattle.tree_model.specs.StepWith.{StepWith}
use Rattle.tree_model.specs.Trees.{IsState}
use Rattle.tree_model.proofs.Counts.{handles_are_counted}
use Rattle.tree_model.proofs.HistoryLaws.{histories_keep_trees}
use Rattle.tree_model.proofs.StepLaws.{opened_is_open, own_handles_stay, telling_changes_nothing}
use Rattle.tree_model.proofs.StepsKept.{steps_keep_trees}
use Rattle.step_resolver.specs.WalkHistory.{own_events}
use Rattle.root_ops.specs.Renumbered.{Numbering, step_by, answer_by}
use Rattle.calls_by_system_calls.specs.Linux.{AreSame}
use Rattle.calls_by_system_calls.specs.Lines.{Descriptors, HasRoom, after_step, with_opened, with_closed, number_opened, IsNoneOf}
use Rattle.calls_by_system_calls.proofs.AtMoment.{Effect, opens_one, closes_one, tells_only, numbering}
use Rattle.calls_by_system_calls.proofs.Others.{among, among_others}
use Rattle.calls_by_system_calls.proofs.Woven.{Woven, woven_own, woven_own_closed}

-- ---- where the history stands

-- The history's state is one of Linux's, with the call's handles among the others'.
pub record Stands (s : State) (t : State) (k : ℕ) (table : Descriptors) (f : ℕ → ℕ) : Type 0 where
  pub handles : List (Option OpenHandle)
  pub is : t ≡ among s handles
  pub woven : Woven 0 k s.handles handles
  pub tree : IsState t
  pub on : (h d : ℕ) → table.on h ≡ Some d → held t 0 (f h) ≡ Some d
  pub apart : (h j d e : ℕ) → table.on h ≡ Some d → table.on j ≡ Some e → f h ≡ f j → h ≡ j
  pub count : held_count t 0 ≤ table.count

pub record Moved (s : State) (events : List Event) (t : State) (k : ℕ) (table : Descriptors) (f : ℕ → ℕ) : Type 0 where
  pub others : List Event
  pub same : AreSame s events t others
  pub legal : IsLegal t others
  pub not_own : own_events 0 others ≡ []
  pub stands : Stands (after_events s events) (after_events t others) k table f

-- these events of others move it
pub moves : (s : State) (events : List Event) (t : State) (k : ℕ) (table : Descriptors) (f : ℕ → ℕ)
    → AllByRecursion (λ event. event.actor ≢ 0) events → IsLegal s events
    → length (after_events s events).handles + k < NUMBERS_MAX → Stands s t k table f → Moved s events t k table f
moves s events t k table f all legal few stands =
    let moved = among_others 0 k s t stands.handles stands.is stands.woven events all legal few in
    record {
      others = moved.others;
      same = moved.same;
      legal = moved.legal;
      not_own = moved.not_own;
      stands = record {
        handles = moved.handles;
        is = moved.after;
        woven = moved.woven;
        tree = (histories_keep_trees t moved.others stands.tree).0;
        on = λ h d e. moved.stay (f h) ∙ stands.on h d e;
        apart = stands.apart;
        count = omega (arith, moved.count, stands.count);
      };
    }

-- The step leaves the handles, and so does Linux's call, and then the nodes are the same.
pub own_change : (s s' t : State) (k : ℕ) (table : Descriptors) (f : ℕ → ℕ) (step : StepWith ℕ)
    → s'.handles ≡ s.handles → (outcome t 0 step).after ≡ record { nodes = s'.nodes; handles = t.handles }
    → Stands s t k table f → Stands s' (outcome t 0 step).after k table f
own_change s s' t k table f step kept leaves stands =
    let same : (outcome t 0 step).after.handles ≡ t.handles = ap (λ (z : State). z.handles) leaves in
    record {
      handles = stands.handles;
      is = leaves ∙ ap (λ (hs : List (Option OpenHandle)). record { nodes = s'.nodes; handles = hs })
          (ap (λ (z : State). z.handles) stands.is);
      woven = subst (λ (hs : List (Option OpenHandle)). Woven 0 k hs stands.handles) (sym kept) stands.woven;
      tree = steps_keep_trees t 0 step stands.tree;
      on = λ h d e. ap (λ (hs : List (Option OpenHandle)). node_held 0 (slice_get hs (f h))) same ∙ stands.on h d e;
      apart = stands.apart;
      count = subst (λ (hs : List (Option OpenHandle)). count_by (is_held_by 0) hs ≤ table.count)
          (sym same) stands.count;
    }

-- ---- the call's own step

-- the numbers with one more
abbrev with_number : (ℕ → ℕ) → ℕ → ℕ → ℕ → ℕ
with_number f h number j = if j == h then number else f j

pub record Owned (nodes : ℕ → ℕ) (s : State) (t : State) (k : ℕ) (table : Descriptors) (f : ℕ → ℕ)
    (step : StepWith ℕ) (answer : Answer) : Type 0 where
  pub g : ℕ → ℕ
  pub more : ℕ
  pub few : more ≤ suc k
  pub stands : Stands s (outcome t 0 (step_by (numbering f nodes) step)).after more
      (after_step nodes table step answer) g
  pub same : (j : ℕ) → IsNoneOf j (number_opened answer []) → g j ≡ f j
  pub number : (h y : ℕ) (kd : Kind) → answer ≡ Opened h y kd → g h ≡ length t.handles

opened_handle : Answer → ℕ
opened_handle (Opened h y k) = h
opened_handle answer = 0

same_handle : (h j y z : ℕ) (k l : Kind) (answer : Answer) → answer ≡ Opened h y k → answer ≡ Opened j z l → j ≡ h
unfolding opened_handle
same_handle h j y z k l answer p q = ap opened_handle (sym q ∙ p)

not_opened : (answer : Answer) → only_tells answer ≡ true → (h y : ℕ) (k : Kind) → answer ≡ Opened h y k → ⊥
not_opened answer only h y k e = false≢true (sym (ap only_tells e) ∙ only)

still_tells : (f : Numbering) (answer : Answer) → only_tells answer ≡ true → only_tells (answer_by f answer) ≡ true
still_tells f (Opened h x k) e = e
still_tells f (Text text) e = refl
still_tells f (Names names) e = refl
still_tells f NotBelow e = refl
still_tells f (Listed names) e = refl
still_tells f Done e = e
still_tells f (Refused error) e = refl

module _ (nodes : ℕ → ℕ) (z : State) (t : State) (k : ℕ) (table : Descriptors) (f : ℕ → ℕ)
    (s : Stands z t k table f) (step : StepWith ℕ) (answer : Answer)
    (tells : (g : ℕ → ℕ) → ((h y : ℕ) (kd : Kind) → answer ≡ Opened h y kd → g h ≡ length t.handles)
    → (outcome t 0 (step_by (numbering f nodes) step)).answer ≡ answer_by (numbering g nodes) answer) where
  abbrev made : StepWith ℕ
  made = step_by (numbering f nodes) step

  abbrev later : State
  later = (outcome t 0 made).after

  -- one is opened
  module _ (h y : ℕ) (kd : Kind) (e : answer ≡ Opened h y kd) (opens : (f : Numbering) (j : ℕ) → is_close_of j (step_by f step) ≡ false) where
    g_of : ℕ → ℕ
    g_of = with_number f h (length t.handles)

    at_h : g_of h ≡ length t.handles
    unfolding g_of
    at_h = ap (λ b. if b then length t.handles else f h) (eq-eqb h h refl)

    is_number : (j z : ℕ) (l : Kind) → answer ≡ Opened j z l → g_of j ≡ length t.handles
    is_number j z l q = ap g_of (same_handle h j y z kd l answer e q) ∙ at_h

    told_now : (outcome t 0 made).answer ≡ Opened (g_of h) (nodes y) kd
    told_now = tells g_of is_number ∙ ap (answer_by (numbering g_of nodes)) e

    on_now : (j d : ℕ) → (with_opened table h (nodes y)).on j ≡ Some d → held later 0 (g_of j) ≡ Some d
    unfolding g_of
    on_now j d p = by (j == h) refl p
      where
        by : (b : Bool) → (j == h) ≡ b → (if b then Some (nodes y) else table.on j) ≡ Some d
            → held later 0 (if b then length t.handles else f j) ≡ Some d
        by true q p =
            ap (held later 0) (sym at_h) ∙ (opened_is_open t 0 made (g_of h) (nodes y) kd told_now).1 ∙ p
        by false q p = own_handles_stay t 0 made (f j) d (s.on j d p) (opens (numbering f nodes) (f j))

    new_is_apart : (i d : ℕ) → table.on i ≡ Some d → length t.handles ≡ f i → ⊥
    new_is_apart i d p q =
        none-some d (sym (ap (node_held 0) (slice_get_past t.handles (length t.handles) (omega arith))) ∙ ap (held t 0) q ∙ s.on i d p)

    apart_now : (j i d e : ℕ) → (with_opened table h (nodes y)).on j ≡ Some d → (with_opened table h (nodes y)).on i ≡ Some e
        → g_of j ≡ g_of i → j ≡ i
    unfolding g_of
    apart_now j i d e p q r = by (j == h) (i == h) refl refl p q r
      where
        by : (b c : Bool) → (j == h) ≡ b → (i == h) ≡ c → (if b then Some (nodes y) else table.on j) ≡ Some d
            → (if c then Some (nodes y) else table.on i) ≡ Some e
            → (if b then length t.handles else f j) ≡ (if c then length t.handles else f i) → j ≡ i
        by true true b c p q r = eqb-true j h b ∙ sym (eqb-true i h c)
        by true false b c p q r = absurd (new_is_apart i e q r)
        by false true b c p q r = absurd (new_is_apart j d p (sym r))
        by false false b c p q r = s.apart j i d e p q r

    opened_now : HasRoom table → Stands z later (suc k) (with_opened table h (nodes y)) g_of
    opened_now room =
        let new = opened_is_open t 0 made (g_of h) (nodes y) kd told_now in
        let counted = (handles_are_counted t 0 made).0 in
        let one = ap opened_count told_now in
        record {
          handles = s.handles ++ Some (record { actor = 0; node = nodes y }) ∷ [];
          is = new.2 ∙ ap (λ z. with_handle z 0 (nodes y)) s.is;
          woven = woven_own s.woven (nodes y);
          tree = steps_keep_trees t 0 made s.tree;
          on = on_now;
          apart = apart_now;
          count = omega (arith, counted, one, s.count);
        }

    same_others : (j : ℕ) → IsNoneOf j (number_opened answer []) → g_of j ≡ f j
    unfolding g_of
    same_others j other =
        let apart = subst (λ a. IsNoneOf j (number_opened a [])) e other in
        ap (λ b. if b then length t.handles else f j) (ne_eqb j h (λ q. apart.0 (sym q)))

  -- one is closed
  module _ (h d : ℕ) (e : step ≡ steps.Close h) (ea : answer ≡ Done) (at : table.on h ≡ Some d) where
    no_number : (j z : ℕ) (l : Kind) → answer ≡ Opened j z l → f j ≡ length t.handles
    no_number j z l q = cc (q, ea)

    is_close : made ≡ steps.Close (f h)
    is_close = ap (step_by (numbering f nodes)) e

    closed_after : later ≡ record { nodes = t.nodes; handles = slice_set t.handles (f h) None }
    closed_after =
        ap (λ z. (outcome t 0 z).after) is_close
        ∙ ap (λ o. (with_some o (refused t BadHandle) (λ z. record {
          answer = Done;
          after = record { nodes = t.nodes; handles = slice_set t.handles (f h) None };
        })).after) (s.on h d at)

    still_on : (j c : ℕ) → (with_closed table h).on j ≡ Some c → held later 0 (f j) ≡ Some c
    still_on j c p = by (j == h) refl p
      where
        by : (b : Bool) → (j == h) ≡ b → (if b then None else table.on j) ≡ Some c → held later 0 (f j) ≡ Some c
        by true q p = absurd (none-some c p)
        by false q p =
            own_handles_stay t 0 made (f j) c (s.on j c p)
            (ap (is_close_of (f j)) is_close
            ∙ ne_eqb (f h) (f j) (λ r. eqb-false j h q (sym (s.apart h j d c at p r))))

    was_open : (j c : ℕ) → (with_closed table h).on j ≡ Some c → table.on j ≡ Some c
    was_open j c p = by (j == h) p
      where
        by : (b : Bool) → (if b then None else table.on j) ≡ Some c → table.on j ≡ Some c
        by true p = absurd (none-some c p)
        by false p = p

    closed_now : Stands z later k (with_closed table h) f
    closed_now =
        let told = tells f no_number ∙ ap (answer_by (numbering f nodes)) ea in
        let counted = (handles_are_counted t 0 made).0 in
        let none = ap opened_count told in
        let one = ap (λ a. closed_count a made) told ∙ ap (closed_count Done) is_close in
        record {
          handles = slice_set s.handles (f h) None;
          is = closed_after ∙ ap (λ z. record { nodes = z.nodes; handles = slice_set z.handles (f h) None }) s.is;
          woven = woven_own_closed s.woven (f h) d (ap (λ z. held z 0 (f h)) (sym s.is) ∙ s.on h d at);
          tree = steps_keep_trees t 0 made s.tree;
          on = still_on;
          apart = λ i j c b p q. s.apart i j c b (was_open i c p) (was_open j b q);
          count = omega (arith, counted, none, one, s.count);
        }

  pub own_step : Effect nodes table step answer → Owned nodes z t k table f step answer
  own_step (opens_one h y kd e room opens after) = record {
    g = g_of h y kd e opens;
    more = suc k;
    few = omega arith;
    stands = subst (λ (d : Descriptors). Stands z later (suc k) d (g_of h y kd e opens)) (sym after)
        (opened_now h y kd e opens room);
    same = same_others h y kd e opens;
    number = is_number h y kd e opens;
  }
  own_step (closes_one h d e ea at after) = record {
    g = f;
    more = k;
    few = omega arith;
    stands = subst (λ (d : Descriptors). Stands z later k d f) (sym after) (closed_now h d e ea at);
    same = λ j other. refl;
    number = λ j z l q. absurd (cc (q, ea));
  }
  own_step (tells_only only after) =
      let none : (j z : ℕ) (l : Kind) → answer ≡ Opened j z l → f j ≡ length t.handles
      = λ j z l q. absurd (not_opened answer only j z l q) in
      let told = ap only_tells (tells f none) ∙ still_tells (numbering f nodes) answer only in
      record {
        g = f;
        more = k;
        few = omega arith;
        stands = subst (λ (y : State). Stands z y k (after_step nodes table step answer) f)
            (sym (telling_changes_nothing t 0 made told)) (subst (λ (d : Descriptors). Stands z t k d f) (sym after) s);
        same = λ j other. refl;
        number = none;
      }
