-- All lines of a call in a row: the window that they make together with what others do.
use Rattle.std.proofs.Common.{◌≡◌, ⊎_elim, ℕ, suc, ◌+◌, ◌-◌, ◌<◌, ◌≤◌, Bool, true, false, if◌then◌else◌, List, [], ◌∷◌, ◌++◌, length, Option, Some, None, slice_get, refl, sym, ap, ◌∙◌, subst, append-nil, arith}
use Rattle.std.specs.Prelude.{◌==◌, nat_le}
use Rattle.std.proofs.lemmas.Bool.{eqb-true, lt-leb, or_from}
use Rattle.std.proofs.lemmas.Option.{none-some}
use Rattle.tree_model.specs.declared.answer.Answer.{Answer}
use Rattle.tree_model.specs.declared.answer.Answer.TheVariants.{Opened, Text, Names, NotBelow, Listed, Done, Refused}
use Rattle.tree_model.specs.declared.answer.Event.{Event}
use Rattle.tree_model.specs.declared.inode.OpenHandle.{OpenHandle}
use Rattle.tree_model.specs.declared.step.Kind.{Kind}
use Rattle.tree_model.specs.declared.tree.TheConstants.{HANDLES_MAX, NUMBERS_MAX}
use Rattle.tree_model.specs.History.{IsLegal, after_events}
use Rattle.tree_model.specs.State.{State}
use Rattle.tree_model.specs.Steps.{held_count, is_full, outcome}
use Rattle.tree_model.specs.StepWith.{StepWith}
use Rattle.tree_model.proofs.HistoryLaws.{IsLegal-append, after_events-append}
use Rattle.tree_model.proofs.StepLaws.{held-is}
use Rattle.bulk_ops.proofs.OwnEvents.{own_both}
use Rattle.step_resolver.specs.Order.{Line, answered, no_room, not_made, events_of}
use Rattle.step_resolver.specs.WalkHistory.{own_events}
use Rattle.root_ops.specs.Renumbered.{step_by, answer_by, lines_by}
use Rattle.calls_by_system_calls.specs.Linux.{Linux, IsLinux, state_at, found_behind, meanwhile, AreSame, ChangeNothing}
use Rattle.calls_by_system_calls.specs.Lines.{Descriptors, HasRoom, StepIsMade, AreMade, after_step, number_opened, numbers_opened, IsNoneOf, AllDiffer}
use Rattle.calls_by_system_calls.specs.Window.{IsPlaced, IsWindow, events_here}
use Rattle.calls_by_system_calls.proofs.AtChange.{Changed, changed_at_call}
use Rattle.calls_by_system_calls.proofs.AtMoment.{Effect, Made, opens_one, closes_one, tells_only, made_at_moment, numbering}
use Rattle.calls_by_system_calls.proofs.Joining.{Moved, Stands, moves, own_change, own_step}
use Rattle.calls_by_system_calls.proofs.Moments.{fewer, later, legal_meanwhile, others_meanwhile, reached}
use Rattle.calls_by_system_calls.proofs.Woven.{woven_length}

-- ---- small parts

-- a number that is none of all is none of those opened here, and none of those later
none_here : (j : ℕ) (answer : Answer) (hs : List ℕ) → IsNoneOf j (number_opened answer hs)
    → IsNoneOf j (number_opened answer []) × IsNoneOf j hs
none_here j (Opened h x k) hs p = ((p.0, tt), p.1)
none_here j (Text text) hs p = (tt, p)
none_here j (Names names) hs p = (tt, p)
none_here j NotBelow hs p = (tt, p)
none_here j (Listed names) hs p = (tt, p)
none_here j Done hs p = (tt, p)
none_here j (Refused error) hs p = (tt, p)

-- what is opened here isn't opened later, nor is it opened twice
differ_later : (answer : Answer) (hs : List ℕ) → AllDiffer (number_opened answer hs)
    → ((h y : ℕ) (k : Kind) → answer ≡ Opened h y k → IsNoneOf h hs) × AllDiffer hs
differ_later (Opened h x k) hs p = ((λ j y l e. let same : h ≡ j = cc (e) in subst (λ z. IsNoneOf z hs) same p.0), p.1)
differ_later (Text text) hs p = ((λ j y l e. absurd (cc (e))), p)
differ_later (Names names) hs p = ((λ j y l e. absurd (cc (e))), p)
differ_later NotBelow hs p = ((λ j y l e. absurd (cc (e))), p)
differ_later (Listed names) hs p = ((λ j y l e. absurd (cc (e))), p)
differ_later Done hs p = ((λ j y l e. absurd (cc (e))), p)
differ_later (Refused error) hs p = ((λ j y l e. absurd (cc (e))), p)

-- what the table has after a line was there before, or was opened by it
fresh_later : (nodes : ℕ → ℕ) (table : Descriptors) (step : StepWith ℕ) (answer : Answer) (hs : List ℕ)
    → ((h d : ℕ) → table.on h ≡ Some d → IsNoneOf h (number_opened answer hs)) → AllDiffer (number_opened answer hs)
    → Effect nodes table step answer → (h d : ℕ) → (after_step nodes table step answer).on h ≡ Some d → IsNoneOf h hs
fresh_later nodes table step answer hs fresh differ (opens_one j y k e room opens after) h d p =
    by (h == j) refl (ap (λ z. z.on h) (sym after) ∙ p)
  where
    by : (b : Bool) → (h == j) ≡ b → (if b then Some (nodes y) else table.on h) ≡ Some d → IsNoneOf h hs
    by true q p = subst (λ z. IsNoneOf z hs) (sym (eqb-true h j q)) ((differ_later answer hs differ).0 j y k e)
    by false q p = (none_here h answer hs (fresh h d p)).1
fresh_later nodes table step answer hs fresh differ (closes_one j c e ea at after) h d p =
    by (h == j) (ap (λ z. z.on h) (sym after) ∙ p)
  where
    by : (b : Bool) → (if b then None else table.on h) ≡ Some d → IsNoneOf h hs
    by true p = absurd (none-some d p)
    by false p = (none_here h answer hs (fresh h d p)).1
fresh_later nodes table step answer hs fresh differ (tells_only only after) h d p =
    (none_here h answer hs (fresh h d (ap (λ z. z.on h) (sym after) ∙ p))).1

module _ (x : Linux) (linux : IsLinux x 0) (nodes : ℕ → ℕ) where
  -- ---- what there is at a line

  abbrev FewFor : ℕ → ℕ → Type 0
  FewFor k lines = (n : ℕ) → length (state_at x n).handles + (k + lines) < NUMBERS_MAX

  few_now : (k lines : ℕ) → FewFor k lines → (n : ℕ) → length (state_at x n).handles + k < NUMBERS_MAX
  few_now k lines few n = omega (arith, few n)

  room_there : (s t : State) (k : ℕ) (table : Descriptors) (f : ℕ → ℕ) → length s.handles + k < NUMBERS_MAX
      → Stands s t k table f → HasRoom table → is_full t 0 ≡ false
  room_there s t k table f few stands room =
      let most : HANDLES_MAX ≡ 1024 = refl in
      let long = ap (λ (z : State). length z.handles) stands.is in
      or_from (nat_le HANDLES_MAX (held_count t 0)) (nat_le NUMBERS_MAX (length t.handles))
      (lt-leb HANDLES_MAX (held_count t 0) (omega (arith, most, room, stands.count)))
      (lt-leb NUMBERS_MAX (length t.handles) (omega (arith, long, woven_length stands.woven, few)))

  within : (s t : State) (k : ℕ) (table : Descriptors) (f : ℕ → ℕ) → Stands s t k table f
      → (h d : ℕ) → table.on h ≡ Some d → d < length s.nodes
  within s t k table f stands h d e =
      let in_t = stands.tree.handles (f h) (record { actor = 0; node = d })
      (held-is 0 (slice_get t.handles (f h)) d (stands.on h d e)) in
      subst (λ (z : State). d < length z.nodes) stands.is in_t

  -- others go on, while no system call of the program changes anything
  goes_on : (m n : ℕ) (t : State) (k : ℕ) (table : Descriptors) (f : ℕ → ℕ) → ChangeNothing x m n
      → ((n : ℕ) → length (state_at x n).handles + k < NUMBERS_MAX) → Stands (state_at x m) t k table f
      → Moved (state_at x m) (meanwhile x m n) t k table f
  goes_on m n t k table f still few stands =
      moves (state_at x m) (meanwhile x m n) t k table f (others_meanwhile x linux m n)
      (legal_meanwhile x linux m n still)
      (subst (λ (z : State). length z.handles + k < NUMBERS_MAX) (sym (reached x m n still)) (few (m + n))) stands

  -- ---- the window from a line on

  pub record Joined (m : ℕ) (t : State) (lines : List Line) (counts : List ℕ) (f : ℕ → ℕ) : Type 0 where
    pub g : ℕ → ℕ
    pub window : List Event
    pub legal : IsLegal t window
    pub own : own_events 0 window ≡ events_of 0 (lines_by (numbering g nodes) lines)
    pub is_window : IsWindow x (numbering g nodes) m t lines counts window
    pub same : (j : ℕ) → IsNoneOf j (numbers_opened lines) → g j ≡ f j

  -- a line with these events, and what comes after it
  record WithLine (m calls : ℕ) (t : State) (lines : List Line) (counts : List ℕ) (g : ℕ → ℕ) (own : List Event) : Type 0 where
    window : List Event
    legal : IsLegal t window
    owns : own_events 0 window ≡ own ++ events_of 0 (lines_by (numbering g nodes) lines)
    placed : IsPlaced x m calls t own
    rest : List Event
    all : window ≡ events_here placed ++ rest
    is_window : IsWindow x (numbering g nodes) (m + calls) (after_events t (events_here placed)) lines counts rest

  abbrev event_by : (ℕ → ℕ) → StepWith ℕ → Answer → Event
  event_by g step answer = record { actor = 0; step = step_by (numbering g nodes) step; answer = answer_by (numbering g nodes) answer }

  record LineJoined (m calls : ℕ) (t : State) (step : StepWith ℕ) (answer : Answer) (lines : List Line)
      (counts : List ℕ) (f : ℕ → ℕ) : Type 0 where
    g : ℕ → ℕ
    same : (j : ℕ) → IsNoneOf j (number_opened answer (numbers_opened lines)) → g j ≡ f j
    line : WithLine m calls t lines counts g (event_by g step answer ∷ [])

  -- ---- one step among what others do

  -- The others' events before it and behind it, and where the history stands then.
  record Here (m calls : ℕ) (t : State) (k : ℕ) (table : Descriptors) (f : ℕ → ℕ) (step : StepWith ℕ)
      (answer : Answer) : Type 0 where
    n : ℕ
    left : ℕ
    sum : n + left ≡ calls
    first : List Event
    before : AreSame (state_at x m) (meanwhile x m n) t first
    legal_first : IsLegal t first
    others_first : own_events 0 first ≡ []
    second : List Event
    after : AreSame (state_at x (m + n)) (meanwhile x (m + n) left)
        (outcome (after_events t first) 0 (step_by (numbering f nodes) step)).after second
    legal_second : IsLegal (outcome (after_events t first) 0 (step_by (numbering f nodes) step)).after second
    others_second : own_events 0 second ≡ []
    more : ℕ
    few : more ≤ suc k
    g : ℕ → ℕ
    stands : Stands (state_at x (m + calls))
        (after_events (outcome (after_events t first) 0 (step_by (numbering f nodes) step)).after second) more
        (after_step nodes table step answer) g
    same : (j : ℕ) → IsNoneOf j (number_opened answer []) → g j ≡ f j
    tells : (e : ℕ → ℕ) → ((h y : ℕ) (l : Kind) → answer ≡ Opened h y l → e h ≡ g h)
        → (outcome (after_events t first) 0 (step_by (numbering f nodes) step)).answer
        ≡ answer_by (numbering e nodes) answer
    by_handles : (e : ℕ → ℕ) → ((h d : ℕ) → table.on h ≡ Some d → f h ≡ e h)
        → step_by (numbering f nodes) step ≡ step_by (numbering e nodes) step
    fresh : (hs : List ℕ) → ((h d : ℕ) → table.on h ≡ Some d → IsNoneOf h (number_opened answer hs))
        → AllDiffer (number_opened answer hs)
        → (h d : ℕ) → (after_step nodes table step answer).on h ≡ Some d → IsNoneOf h hs

  -- a step that changes no entry, at one of its moments
  look_here : (m calls : ℕ) (t : State) (k : ℕ) (table : Descriptors) (f : ℕ → ℕ) (step : StepWith ℕ) (answer : Answer)
      → ((n : ℕ) → length (state_at x n).handles + suc k < NUMBERS_MAX) → Stands (state_at x m) t k table f
      → ChangeNothing x m calls → Made x nodes m calls table step answer → Here m calls t k table f step answer
  look_here m calls t k table f step answer few s still made =
      let n = made.at.n in
      let left = calls - n in
      let sum : n + left ≡ calls = omega (arith, made.at.by) in
      let still1 = fewer x m n calls made.at.by still in
      let still2 = later x m n left calls sum still in
      let few1 : (n : ℕ) → length (state_at x n).handles + k < NUMBERS_MAX = λ i. omega (arith, few i) in
      let first = goes_on m n t k table f still1 few1 s in
      let t1 = after_events t first.others in
      let stands1 = subst (λ (z : State). Stands z t1 k table f) (reached x m n still1) first.stands in
      let made_step = step_by (numbering f nodes) step in
      let there : t1.nodes ≡ (state_at x (m + n)).nodes = ap (λ (z : State). z.nodes) stands1.is in
      let room = room_there (state_at x (m + n)) t1 k table f (few1 (m + n)) stands1 in
      let own = own_step nodes (state_at x (m + n)) t1 k table f stands1 step answer
      (λ g number. made.at.tells t1 f g there stands1.on room number) made.effect in
      let t2 = (outcome t1 0 made_step).after in
      let few2 : (n : ℕ) → length (state_at x n).handles + own.more < NUMBERS_MAX
      = λ i. omega (arith, few i, own.few) in
      let second = goes_on (m + n) left t2 own.more (after_step nodes table step answer) own.g still2 few2 own.stands in
      let sum2 : (m + n) + left ≡ m + calls = omega (arith, sum) in
      record {
        n = n;
        left = left;
        sum = sum;
        first = first.others;
        before = first.same;
        legal_first = first.legal;
        others_first = first.not_own;
        second = second.others;
        after = second.same;
        legal_second = second.legal;
        others_second = second.not_own;
        more = own.more;
        few = own.few;
        g = own.g;
        stands = subst (λ (i : ℕ). Stands (state_at x i) (after_events t2 second.others) own.more
            (after_step nodes table step answer) own.g) sum2
            (subst (λ (z : State). Stands z (after_events t2 second.others) own.more
            (after_step nodes table step answer) own.g)
            (reached x (m + n) left still2) second.stands);
        same = own.same;
        tells = λ e keeps.
            made.at.tells t1 f e there stands1.on room (λ h y l told. keeps h y l told ∙ own.number h y l told);
        by_handles = λ e same. made.by_handles f e same;
        fresh = λ hs fresh differ. fresh_later nodes table step answer hs fresh differ made.effect;
      }

  -- a step that changes an entry, at the moment of its system call
  change_here : (m calls : ℕ) (t : State) (k : ℕ) (table : Descriptors) (f : ℕ → ℕ) (step : StepWith ℕ)
      (answer : Answer)
      → ((n : ℕ) → length (state_at x n).handles + suc k < NUMBERS_MAX) → Stands (state_at x m) t k table f
      → Changed x nodes m calls table step answer → Here m calls t k table f step answer
  change_here m calls t k table f step answer few s made =
      let left_same = made.handles in
      let found_few : length (found_behind x m).handles + k < NUMBERS_MAX
      = subst (λ (hs : List (Option OpenHandle)). length hs + k < NUMBERS_MAX) left_same (omega (arith, few (suc m))) in
      let first = moves (state_at x m) (x.others m) t k table f (linux.by_others m) (linux.legal m) found_few s in
      let t1 = after_events t first.others in
      let made_step = step_by (numbering f nodes) step in
      let there : t1.nodes ≡ (found_behind x m).nodes = ap (λ (z : State). z.nodes) first.stands.is in
      let it = made.tells t1 f there first.stands.on in
      let t2 = (outcome t1 0 made_step).after in
      let behind = own_change (found_behind x m)
      (state_at x (suc m)) t1 k table f made_step made.handles it.1 first.stands in
      let next : suc m ≡ m + 1 = omega arith in
      let end : suc m ≡ m + calls = omega (arith, made.one) in
      let alone : x.others m ++ [] ≡ x.others m = append-nil (x.others m) in
      record {
        n = 1;
        left = 0;
        sum = omega (arith, made.one);
        first = first.others;
        before = subst (λ (es : List Event). AreSame (state_at x m) es t first.others) (sym alone) first.same;
        legal_first = first.legal;
        others_first = first.not_own;
        second = [];
        after = subst (λ (i : ℕ). t2.nodes ≡ (state_at x i).nodes) next (ap (λ (z : State). z.nodes) it.1);
        legal_second = tt;
        others_second = refl;
        more = k;
        few = omega arith;
        g = f;
        stands = subst (λ (i : ℕ). Stands (state_at x i) t2 k (after_step nodes table step answer) f) end
            (subst (λ (d : Descriptors). Stands (state_at x (suc m)) t2 k d f) (sym made.same_table) behind);
        same = λ j e. refl;
        tells = λ e keeps. it.0 e;
        by_handles = λ e same. made.by_handles f e same;
        fresh = λ hs fresh differ h d on.
            subst (λ (js : List ℕ). IsNoneOf h js) (made.opens_none hs)
            (fresh h d (ap (λ (z : Descriptors). z.on h) (sym made.same_table) ∙ on));
      }

  module _ (m calls : ℕ) (t : State) (k : ℕ) (table : Descriptors) (f : ℕ → ℕ) (step : StepWith ℕ) (answer : Answer)
      (lines : List Line) (counts : List ℕ) (few : FewFor k (suc (length lines)))
      (fresh : (h d : ℕ) → table.on h ≡ Some d → IsNoneOf h (number_opened answer (numbers_opened lines)))
      (differ : AllDiffer (number_opened answer (numbers_opened lines)))
      (here : Here m calls t k table f step answer)
      (next : (t' : State) (k' : ℕ) (f' : ℕ → ℕ) → FewFor k' (length lines)
      → Stands (state_at x (m + calls)) t' k' (after_step nodes table step answer) f'
      → ((h d : ℕ) → (after_step nodes table step answer).on h ≡ Some d → IsNoneOf h (numbers_opened lines))
      → Joined (m + calls) t' lines counts f') where
    joins_line : LineJoined m calls t step answer lines counts f
    joins_line =
        let t1 = after_events t here.first in
        let made_step = step_by (numbering f nodes) step in
        let t2 = (outcome t1 0 made_step).after in
        let t3 = after_events t2 here.second in
        let few2 : FewFor here.more (length lines) = λ i. omega (arith, few i, here.few) in
        let rest = next t3 here.more here.g few2 here.stands (here.fresh (numbers_opened lines) fresh differ) in
        let own_event : Event = record { actor = 0; step = made_step; answer = (outcome t1 0 made_step).answer } in
        let later = differ_later answer (numbers_opened lines) differ in
        let same_step : made_step ≡ step_by (numbering rest.g nodes) step
        = here.by_handles rest.g (λ h d e.
        let none = none_here h answer (numbers_opened lines) (fresh h d e) in
        sym (rest.same h none.1 ∙ here.same h none.0)) in
        let same_told : (outcome t1 0 made_step).answer ≡ answer_by (numbering rest.g nodes) answer
        = here.tells rest.g (λ h y l e. rest.same h (later.0 h y l e)) in
        let same_event : own_event ≡ event_by rest.g step answer
        = λ i. record { actor = 0; step = same_step i; answer = same_told i } in
        let reaches : after_events t (here.first ++ (own_event ∷ here.second)) ≡ t3
        = after_events-append t here.first (own_event ∷ here.second) in
        let reaches_own : after_events t (here.first ++ (own_event ∷ [])) ≡ t2
        = after_events-append t here.first (own_event ∷ []) in
        let with_own : WithLine m calls t lines counts rest.g (own_event ∷ []) = record {
          window = (here.first ++ (own_event ∷ here.second)) ++ rest.window;
          legal =
              IsLegal-append t (here.first ++ (own_event ∷ here.second)) rest.window
              (IsLegal-append t here.first (own_event ∷ here.second) here.legal_first (refl, here.legal_second))
              (subst (λ z. IsLegal z rest.window) (sym reaches) rest.legal);
          owns =
              own_both 0 (here.first ++ (own_event ∷ here.second)) rest.window
              ∙ ap (λ z. z ++ own_events 0 rest.window)
              (own_both 0 here.first (own_event ∷ here.second)
              ∙ ap (λ z. z ++ own_events 0 (own_event ∷ here.second)) here.others_first
              ∙ ap (λ z. own_event ∷ z) here.others_second)
              ∙ ap (λ z. own_event ∷ z) rest.own;
          placed = record {
            n = here.n;
            rest = here.left;
            all = here.sum;
            first = here.first;
            second = here.second;
            before = here.before;
            after = subst (λ z. AreSame (state_at x (m + here.n)) (meanwhile x (m + here.n) here.left) z here.second)
                (sym reaches_own) here.after;
          };
          rest = rest.window;
          all = refl;
          is_window = subst (λ z. IsWindow x (numbering rest.g nodes) (m + calls) z lines counts rest.window) (sym reaches) rest.is_window;
        } in
        record {
          g = rest.g;
          same = λ j e. let none = none_here j answer (numbers_opened lines) e in rest.same j none.1
              ∙ here.same j none.0;
          line = subst (λ z. WithLine m calls t lines counts rest.g (z ∷ [])) same_event with_own;
        }

  -- ---- all lines

  unmade : (m calls : ℕ) (t : State) (k : ℕ) (table : Descriptors) (f : ℕ → ℕ) (lines : List Line) (counts : List ℕ)
      → ((n : ℕ) → length (state_at x n).handles + k < NUMBERS_MAX) → Stands (state_at x m) t k table f
      → ChangeNothing x m calls
      → ((t' : State) → Stands (state_at x (m + calls)) t' k table f → Joined (m + calls) t' lines counts f)
      → (g : ℕ → ℕ) × (WithLine m calls t lines counts g []) × ((j : ℕ) → IsNoneOf j (numbers_opened lines) → g j ≡ f j)
  unmade m calls t k table f lines counts few s still next =
      let first = goes_on m calls t k table f still few s in
      let stands = subst (λ (z : State). Stands z (after_events t first.others) k table f)
      (reached x m calls still) first.stands in
      let rest = next (after_events t first.others) stands in
      let whole : first.others ++ [] ≡ first.others = append-nil first.others in (
        rest.g,
        record {
          window = (first.others ++ []) ++ rest.window;
          legal = subst (λ z. IsLegal t (z ++ rest.window)) (sym whole)
              (IsLegal-append t first.others rest.window first.legal rest.legal);
          owns = ap (λ z. own_events 0 (z ++ rest.window)) whole ∙ own_both 0 first.others rest.window
              ∙ ap (λ z. z ++ own_events 0 rest.window) first.not_own ∙ rest.own;
          placed = record {
            n = calls;
            rest = 0;
            all = omega arith;
            first = first.others;
            second = [];
            before = first.same;
            after = ap (λ z. (after_events t z).nodes) whole ∙ ap (λ (z : State). z.nodes) stands.is;
          };
          rest = rest.window;
          all = refl;
          is_window = subst (λ z. IsWindow x (numbering rest.g nodes) (m + calls) (after_events t z) lines counts rest.window) (sym whole) rest.is_window;
        },
        rest.same,
      )

  abbrev Joins : List Line → Type 0
  Joins lines = (counts : List ℕ) (m : ℕ) (t : State) (k : ℕ) (table : Descriptors) (f : ℕ → ℕ) → FewFor k (length lines)
      → Stands (state_at x m) t k table f → AreMade x nodes m table lines counts
      → ((h d : ℕ) → table.on h ≡ Some d → IsNoneOf h (numbers_opened lines)) → AllDiffer (numbers_opened lines)
      → Joined m t lines counts f

  made_line : (step : StepWith ℕ) (answer : Answer) (lines : List Line) → Joins lines → (calls : ℕ) (counts : List ℕ) (m : ℕ)
      (t : State) (k : ℕ) (table : Descriptors) (f : ℕ → ℕ) → FewFor k (suc (length lines))
      → Stands (state_at x m) t k table f
      → StepIsMade x nodes m table calls step answer
      → AreMade x nodes (m + calls) (after_step nodes table step answer) lines counts
      → ((h d : ℕ) → table.on h ≡ Some d → IsNoneOf h (number_opened answer (numbers_opened lines)))
      → AllDiffer (number_opened answer (numbers_opened lines)) → LineJoined m calls t step answer lines counts f
  made_line step answer lines next calls counts m t k table f few s made are fresh differ =
      let few1 : (n : ℕ) → length (state_at x n).handles + suc k < NUMBERS_MAX = λ i. omega (arith, few i) in
      joins_line m calls t k table f step answer lines counts few fresh differ
      (⊎_elim
      (λ look. look_here m calls t k table f step answer few1 s look.0
      (made_at_moment x nodes m calls table (within (state_at x m) t k table f s) step answer look.1))
      (λ change. change_here m calls t k table f step answer few1 s
      (changed_at_call x nodes m calls table step answer change)) made)
      (λ t' k' f' few' s' fresh'. next counts (m + calls) t' k' (after_step nodes table step answer) f' few' s' are fresh'
      (differ_later answer (numbers_opened lines) differ).1)

  pub joins : (lines : List Line) → Joins lines
  joins [] [] m t k table f few s are fresh differ = record {
    g = f;
    window = [];
    legal = tt;
    own = refl;
    is_window = refl;
    same = λ j e. refl;
  }
  joins [] (calls ∷ counts) m t k table f few s are fresh differ = absurd are
  joins (line ∷ lines) [] m t k table f few s are fresh differ = absurd are
  joins (answered step answer ∷ lines) (calls ∷ counts) m t k table f few s are fresh differ =
      let it = made_line step answer lines (joins lines) calls counts m t k table f few s are.0 are.1 fresh differ in
      record {
        g = it.g;
        window = it.line.window;
        legal = it.line.legal;
        own = it.line.owns;
        is_window = (it.line.placed, (it.line.rest, (it.line.all, it.line.is_window)));
        same = it.same;
      }
  joins (no_room step answer ∷ lines) (calls ∷ counts) m t k table f few s are fresh differ =
      let it = made_line step answer lines (joins lines) calls counts m t k table f few s are.0 are.1 fresh differ in
      record {
        g = it.g;
        window = it.line.window;
        legal = it.line.legal;
        own = it.line.owns;
        is_window = (it.line.placed, (it.line.rest, (it.line.all, it.line.is_window)));
        same = it.same;
      }
  joins (not_made error ∷ lines) (calls ∷ counts) m t k table f few s are fresh differ =
      let it = unmade m calls t k table f lines counts (few_now k (suc (length lines)) few) s are.0
      (λ t' s'. joins lines counts (m + calls) t' k table f (λ n. omega (arith, few n)) s' are.1 fresh differ) in
      record {
        g = it.0;
        window = it.1.window;
        legal = it.1.legal;
        own = it.1.owns;
        is_window = (it.1.placed, (it.1.rest, (it.1.all, it.1.is_window)));
        same = it.2;
      }
