-- On books with the same nodes and as much room, by paired handles of its own, an actor's step comes to the same.
use Rattle.std.proofs.Common.{◌≡◌, ℕ, ◌+◌, ◌≤◌, ◌<◌, ◌⊎◌, inl, inr, ⊎_elim, Bool, true, false, not, ◌==◌, ◌||◌, ◌&&◌, [], ◌∷◌, length, Option, Some, None, is_some, nat_le, nat_lt, refl, sym, ap, ◌∙◌, subst, arith}
use Rattle.std.specs.Prelude.{if◌then◌else◌}
use Rattle.std.proofs.lemmas.Bool.{false≢true, true≢false}
use Rattle.std.proofs.lemmas.List.{length_push}
use Rattle.path_text.specs.declared.errno.Errno.{Errno}
use Rattle.path_text.specs.declared.errno.Errno.TheVariants.{BadHandle, NoMemory, BookFull}
use Rattle.tree_model.specs.declared.answer.Answer.TheVariants.{Refused}
use Rattle.tree_model.specs.declared.answer.Event.{Event}
use Rattle.tree_model.specs.StepWith.{StepWith}
use Rattle.tree_model.specs.declared.step.StepOf.TheVariants as steps
use Rattle.tree_model.specs.declared.tree.TheConstants.{HANDLES_MAX}
use Rattle.tree_model.specs.State.{State}
use Rattle.tree_model.specs.StepLaws.{open_count}
use Rattle.tree_model.specs.Steps.{outcome, held, is_full}
use Rattle.tree_model.proofs.HistoryLaws.{after_events-append}
use Rattle.race_core.specs.Book.{BookedHistory, tree_now, free_lines, lines_needed, is_close, closes_nothing, refusal, answer_now, booked, is_done}
use Rattle.race_core.specs.Turns.{Stepped, unless_refused, stepped_by}
use Rattle.race_core.specs.Renamed.{step_by}
use Rattle.local_states.specs.Alike.{Pairs, SameSteps, SameAnswers}
use Rattle.local_states.specs.Outside.{plus, changed_by, is_outside, any_outside, acts_outside}
use Rattle.local_states.specs.Local.{SameGround, GrownAlike, changes_outside}
use Rattle.local_states.proofs.Alike.OutsideAlike.{after_push, blind_done}
use Rattle.local_states.proofs.Alike.Steps.{SameNumbers, zero_agrees, Paired, open', dup', parent', read', below', list', close', make_dir', make_file', make_link', remove_file', remove_dir', rename', paired_of, same_close}
use Rattle.local_states.proofs.Local.Steps.{PartBy, own_held, own_steps, either_way, one_each}

blind_lines : (f : ℕ → ℕ) (step : StepWith ℕ) → lines_needed (step_by f step) ≡ lines_needed step
blind_lines f (steps.Open h n) = refl
blind_lines f (steps.Dup h) = refl
blind_lines f (steps.Parent h) = refl
blind_lines f (steps.ReadLink h) = refl
blind_lines f (steps.NameBelow r h) = refl
blind_lines f (steps.List h) = refl
blind_lines f (steps.Close h) = refl
blind_lines f (steps.MakeDir h n) = refl
blind_lines f (steps.MakeFile h n) = refl
blind_lines f (steps.MakeLink h n text) = refl
blind_lines f (steps.RemoveFile h n) = refl
blind_lines f (steps.RemoveDir h n) = refl
blind_lines f (steps.Rename h n k m mode) = refl

needs_two : (step : StepWith ℕ) → lines_needed step ≤ 2
needs_two (steps.Open h n) = omega arith
needs_two (steps.Dup h) = omega arith
needs_two (steps.Parent h) = omega arith
needs_two (steps.ReadLink h) = omega arith
needs_two (steps.NameBelow r h) = omega arith
needs_two (steps.List h) = omega arith
needs_two (steps.Close h) = omega arith
needs_two (steps.MakeDir h n) = omega arith
needs_two (steps.MakeFile h n) = omega arith
needs_two (steps.MakeLink h n text) = omega arith
needs_two (steps.RemoveFile h n) = omega arith
needs_two (steps.RemoveDir h n) = omega arith
needs_two (steps.Rename h n k m mode) = omega arith

-- What was paired still is, and what is paired besides was given; the answers are the same but for pairs; and the
-- books have grown alike.
pub record AfterOwnStepped (a : ℕ) (pairs : Pairs) (b c : BookedHistory) (o u : Stepped) : Type 0 where
  pub more : Pairs
  pub grows : (h k : ℕ) → pairs h k ≡ true → more h k ≡ true
  pub news : (h k : ℕ) → more h k ≡ true → (pairs h k ≡ true) ⊎ ((h < length (tree_now o.book).handles) × (k < length (tree_now u.book).handles))
  pub trees : PartBy a more (tree_now o.book) (tree_now u.book)
  pub answers : SameAnswers more o.answer u.answer
  pub grown : GrownAlike b c o.book u.book

pub not_grown : (b c : BookedHistory) → GrownAlike b c b c
not_grown b c = record {
  lines = refl;
  others_lines = refl;
  events = either_way (length b.events) (length c.events);
  numbers = either_way (length (tree_now b).handles) (length (tree_now c).handles);
  open_handles = either_way (open_count (tree_now b)) (open_count (tree_now c));
  outside = λ k root. either_way (changes_outside k root b) (changes_outside k root c);
}

plus_each : (d e : Bool) → d ≡ e → (m n : ℕ) → plus d m + n ≡ plus e n + m
plus_each true true q m n = omega arith
plus_each false false q m n = omega arith
plus_each true false q m n = absurd (true≢false q)
plus_each false true q m n = absurd (false≢true q)

module _ (a : ℕ) (pairs : Pairs) (b c : BookedHistory) (part : PartBy a pairs (tree_now b) (tree_now c)) (ground : SameGround b c) where
  own_closes : (x y : StepWith ℕ) → Paired pairs x y → closes_nothing (tree_now b) a x ≡ closes_nothing (tree_now c) a y
  own_closes x y (open' h k n p) = refl
  own_closes x y (dup' h k p) = refl
  own_closes x y (parent' h k p) = refl
  own_closes x y (read' h k p) = refl
  own_closes x y (below' r q h k p p') = refl
  own_closes x y (list' h k p) = refl
  own_closes x y (close' h k p) = ap (λ o. not (is_some o)) (own_held a pairs (tree_now b) (tree_now c) part h k p)
  own_closes x y (make_dir' h k n p) = refl
  own_closes x y (make_file' h k n p) = refl
  own_closes x y (make_link' h k n text p) = refl
  own_closes x y (remove_file' h k n p) = refl
  own_closes x y (remove_dir' h k n p) = refl
  own_closes x y (rename' h k n d e m mode p p') = refl

  own_outside : (root : Option ℕ) (h k : ℕ) → SameNumbers pairs h k → is_outside (tree_now b).nodes root (held (tree_now b) a h) ≡ is_outside (tree_now c).nodes root (held (tree_now c) a k)
  own_outside root h k same = let at = own_held a pairs (tree_now b) (tree_now c) part h k same in λ i. is_outside (part.nodes i) root (at i)

  own_any : (root : Option ℕ) (x y : StepWith ℕ) → Paired pairs x y → any_outside (tree_now b) root a (changed_by x) ≡ any_outside (tree_now c) root a (changed_by y)
  own_any root x y (open' h k n p) = refl
  own_any root x y (dup' h k p) = refl
  own_any root x y (parent' h k p) = refl
  own_any root x y (read' h k p) = refl
  own_any root x y (below' r q h k p p') = refl
  own_any root x y (list' h k p) = refl
  own_any root x y (close' h k p) = refl
  own_any root x y (make_dir' h k n p) = ap (λ d. d || false) (own_outside root h k p)
  own_any root x y (make_file' h k n p) = ap (λ d. d || false) (own_outside root h k p)
  own_any root x y (make_link' h k n text p) = ap (λ d. d || false) (own_outside root h k p)
  own_any root x y (remove_file' h k n p) = ap (λ d. d || false) (own_outside root h k p)
  own_any root x y (remove_dir' h k n p) = ap (λ d. d || false) (own_outside root h k p)
  own_any root x y (rename' h k n d e m mode p p') =
      let first = own_outside root h k p in
      let second = own_outside root d e p' in
      λ i. first i || (second i || false)

  same_full : is_full (tree_now b) a ≡ is_full (tree_now c) a
  same_full = λ i. nat_le HANDLES_MAX (part.held_handles i) || ground.numbers i

  module _ (x y : StepWith ℕ) (same : SameSteps pairs x y) where
    lines_alike : lines_needed x ≡ lines_needed y
    lines_alike = sym (blind_lines (λ h. 0) x) ∙ ap lines_needed (same (λ h. 0) (λ h. 0) (zero_agrees pairs)) ∙ blind_lines (λ h. 0) y

    pub own_refused : refusal b a x ≡ refusal c a y
    own_refused =
        let full : nat_lt (free_lines b) (lines_needed x) ≡ nat_lt (free_lines c) (lines_needed y) =
        ground.lines (lines_needed x) (needs_two x) ∙ ap (λ n. nat_lt (free_lines c) n) lines_alike in
        let closes = own_closes x y (paired_of pairs x y same) in
        λ i. if full i then Some BookFull else (if closes i then Some BadHandle else None)

    own_books : (refused : Option Errno) → AfterOwnStepped a pairs b c (unless_refused b a x refused) (unless_refused c a y refused)
    own_books (Some error) = record { more = pairs; grows = λ h k p. p; news = λ h k p. inl p; trees = part; answers = λ f g agree. refl; grown = not_grown b c }
    own_books None =
        let after = own_steps a pairs (tree_now b) (tree_now c) part same_full x y same in
        let event : Event = record { actor = a; step = x; answer = answer_now b a x } in
        let event' : Event = record { actor = a; step = y; answer = answer_now c a y } in
        let done : is_done (answer_now b a x) ≡ is_done (answer_now c a y) =
        sym (blind_done (λ h. 0) (answer_now b a x)) ∙ ap is_done (after.answers (λ h. 0) (λ h. 0) (zero_agrees after.more)) ∙ blind_done (λ h. 0) (answer_now c a y) in
        let tree : tree_now (booked b a x) ≡ (outcome (tree_now b) a x).after = after_events-append b.opening b.events (event ∷ []) in
        let tree' : tree_now (booked c a y) ≡ (outcome (tree_now c) a y).after = after_events-append c.opening c.events (event' ∷ []) in
        record {
          more = after.more;
          grows = after.grows;
          news = λ h k p. ⊎_elim (λ old. inl old) (λ new. inr (
            subst (λ (s : State). h < length s.handles) (sym tree) new.0,
            subst (λ (t : State). k < length t.handles) (sym tree') new.1,
          )) (after.news h k p);
          trees = subst (λ s. PartBy a after.more s (tree_now (booked c a y))) (sym tree)
              (subst (λ t. PartBy a after.more (outcome (tree_now b) a x).after t) (sym tree') after.trees);
          answers = after.answers;
          grown = record {
            lines = refl;
            others_lines = refl;
            events = one_each (length (booked b a x).events) (length (booked c a y).events) (length b.events) (length c.events)
                (length_push b.events event) (length_push c.events event');
            numbers = ap (λ (s : State). length s.handles + length (tree_now c).handles) tree
                ∙ (after.numbers ∙ sym (ap (λ (t : State). length t.handles + length (tree_now b).handles) tree'));
            open_handles = ap (λ (s : State). open_count s + open_count (tree_now c)) tree
                ∙ (after.open_handles ∙ sym (ap (λ (t : State). open_count t + open_count (tree_now b)) tree'));
            outside = λ k root.
                let any = own_any root x y (paired_of pairs x y same) in
                let acts : ((a == k) && acts_outside root (tree_now b) event) ≡ ((a == k) && acts_outside root (tree_now c) event') =
                (λ i. (a == k) && (done i && any i)) in
                ap (λ n. n + changes_outside k root c) (after_push k root b.opening b.events event)
                ∙ (plus_each ((a == k) && acts_outside root (tree_now b) event) ((a == k) && acts_outside root (tree_now c) event') acts
                (changes_outside k root b) (changes_outside k root c)
                ∙ sym (ap (λ n. n + changes_outside k root b) (after_push k root c.opening c.events event')));
          };
        }

    own_unless : AfterOwnStepped a pairs b c (unless_refused b a x (refusal b a x)) (unless_refused c a y (refusal c a y))
    own_unless = subst (λ refused. AfterOwnStepped a pairs b c (unless_refused b a x (refusal b a x)) (unless_refused c a y refused)) own_refused (own_books (refusal b a x))

    pub own_stepped : (luck : Bool) → AfterOwnStepped a pairs b c (stepped_by luck b a x) (stepped_by luck c a y)
    own_stepped luck = by (luck || is_close x) (luck || is_close y) (ap (λ is_one. luck || is_one) (same_close pairs x y same))
      where
        by : (d e : Bool) → d ≡ e → AfterOwnStepped a pairs b c
            (if d then unless_refused b a x (refusal b a x) else record { answer = Refused NoMemory; book = b })
            (if e then unless_refused c a y (refusal c a y) else record { answer = Refused NoMemory; book = c })
        by true true q = own_unless
        by false false q = record { more = pairs; grows = λ h k p. p; news = λ h k p. inl p; trees = part; answers = λ f g agree. refl; grown = not_grown b c }
        by true false q = absurd (true≢false q)
        by false true q = absurd (false≢true q)
