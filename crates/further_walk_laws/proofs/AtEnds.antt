-- What is passed from the last steps on: a Dup, the last NameBelow, closings, and steps that weren't made.
use Rattle.std.specs.Prelude.{◌≡◌, ℕ, suc, ◌+◌, ◌*◌, ◌≤◌, List, [], ◌∷◌, ◌++◌, Bool, true, false, length, Some, None, refl}
use Rattle.std.proofs.Common.{sym, ap, subst, ◌∙◌, le_refl, le_trans, inl, inr, arith}
use Rattle.std.proofs.lemmas.Option.{none-some}
use Rattle.std.proofs.Math.Nat.{le-suc}
use Rattle.path_text.specs.declared.errno.Errno.{Errno}
use Rattle.path_text.specs.declared.errno.Errno.TheVariants.{Raced, NoMemory, BookFull}
use Rattle.tree_model.specs.declared.answer.Answer.{Answer}
use Rattle.tree_model.specs.declared.answer.Answer.TheVariants.{Refused}
use Rattle.tree_model.specs.declared.step.StepOf.TheVariants.{Dup, NameBelow, Close}
use Rattle.tree_model.specs.State.{Stands}
use Rattle.tree_model.specs.Steps.{opens}
use Rattle.step_resolver.specs.Asked.{AskedPart, Up}
use Rattle.step_resolver.specs.Trail.{all}
use Rattle.step_resolver.specs.Order.{Handle, root_itself, holds, Todo, todo, After, gives, onward, judges, Walking, opening, reading, rising, judging, duping, ending, closing, Turn, failed, handles_of, gives_up, closes, take, due, is_close, IsWant}
use Rattle.step_resolver.specs.Order.{end_of as ends_with}
use Rattle.step_resolver.specs.WalkHistory.{WalkInHistory, state_at, timeline}
use Rattle.step_resolver.proofs.WalkSteps.{one_handle}
use Rattle.step_resolver.proofs.Trail.Joined.{own_earlier}
use Rattle.step_resolver.proofs.Underway.StepOutcomes.{IsLess, Close-is_less, Opening, too_many, no_object, is_opened, opening_of, dup_is}
use Rattle.step_resolver.proofs.Underway.WalkInvariant.{Lived, StepAt, held_at, root_open, held_node, spot_at, EndsAt, at_all, at_missing, GoodEnd, GoodClosing}
use Rattle.step_resolver.proofs.Underway.HandlesHeld.{position_kept, position_less}
use Rattle.step_resolver.proofs.Underway.AfterDupAndClose.{ends_later}
use Rattle.further_walk_laws.proofs.Passing.{TellsOf, tells_whole, on_the_way, AheadAt, AheadIn, AheadJudging, AheadAtEnd, Fails, paid_by, paid_for, none_passed, nothing_in, given_up, gave_up_in}
use Rattle.further_walk_laws.proofs.NextParts.{rooted, closes_ahead}
use Rattle.further_walk_laws.proofs.AfterParent.{judged_ahead}

one_line : (n c : ℕ) → n ≤ 0 → 1 ≤ c → suc n ≤ c
one_line n c none some = omega (arith, none, some)

two_lines : (n : ℕ) → n ≤ 1 → suc n ≤ 2 + 4 * 0
two_lines n le = omega (arith, le)

-- ---- a Dup of the root

module _ {w : WalkInHistory} (lived : Lived w) (end : Turn) (texts now t n : ℕ) (room : Bool) (rest : List AskedPart) (good : GoodEnd w now root_itself rest) (answer : Answer)
    (is : StepAt w now t (Dup w.way.root) answer) where
  abbrev Left : Answer → Type 0
  Left v = AheadAt w end texts (suc t) (take w.way room (duping rest) v) n

  root_is : held_at w t w.way.root ≡ Some w.root
  root_is = is.kept w.way.root ∙ root_open lived good.handles

  on_opening : Opening (state_at w t) w.actor w.root (opens (state_at w t) w.actor w.root) → Left answer → AheadIn w end texts now (duping rest) (suc n)
  on_opening (too_many f q) ahead =
      let o = dup_is (state_at w t) w.actor w.way.root w.root root_is ∙ q in
      let fails = subst Left (is.told ∙ ap (λ r. r.answer) o) ahead in
      nothing_in w end texts now (suc n) (λ rest to next. fails.1 rest to next (on_the_way w rest to next), fails.2) (duping rest) (one_line n 3 fails.0 (omega arith))
  on_opening (no_object z q) ahead =
      let o = held_node (state_at w t) w.actor w.way.root w.root (lived.states t) root_is in
      absurd (none-some o.0 (sym z ∙ o.1))
  on_opening (is_opened what z q) ahead =
      let o = dup_is (state_at w t) w.actor w.way.root w.root root_is ∙ q in
      let further = subst Left (is.told ∙ ap (λ r. r.answer) o) ahead in
      λ b m past ends. paid_by n 2 (suc n) 3 (omega arith) (further b m (le_trans past (le_trans is.at.later (le-suc t))) (ends_later (le_trans is.at.later (le-suc t)) ends))

  -- what the answer to a Dup leads to
  pub duping_ahead : Left answer → AheadIn w end texts now (duping rest) (suc n)
  duping_ahead ahead = on_opening (opening_of (state_at w t) w.actor w.root) ahead

-- ---- the last NameBelow

module _ {w : WalkInHistory} (lived : Lived w) (end : Turn) (texts now u n : ℕ) (room : Bool) (handle : Handle) (names : List (List ℕ)) (rest : List AskedPart)
    (good : GoodEnd w now (holds handle names) rest) (answer : Answer) (is : StepAt w now u (NameBelow w.way.root handle.number) answer) where
  at_end_of : (ps : List AskedPart) → AheadAt w end texts (suc u) (ends_with handle names ps) n → AheadAtEnd w end texts handle names ps n
  at_end_of [] ahead = ahead
  at_end_of (p ∷ ps) ahead = ahead

  stood : Stands (state_at w u).nodes w.root handle.node names → AheadAt w end texts (suc u) (ends_with handle names rest) n → AheadIn w end texts now (ending handle names rest) (suc n)
  stood stands ahead = λ b m past ends. paid_by n 0 (suc n) 2 (omega arith)
      (at_end_of rest ahead b m u (own_earlier (timeline w) past is.at) stands (ends_later is.at.later ends))

  -- what is held didn't stand at the names passed
  raced : (b m : ℕ) → m ≤ now → (Stands (state_at w u).nodes w.root handle.node names → ⊥) → EndsAt w now (spot_at w (holds handle names) b m) rest
      → TellsOf w (failed Raced) rest (spot_at w (holds handle names) b m) None
  raced b m past astray (at_all e) = tells_whole w (failed Raced) rest (spot_at w (holds handle names) b m) None e
      (λ trail few exact. inr (inl (
        record {
          to = spot_at w (holds handle names) b m;
          trail = trail;
          when = u;
          astray = record { at = own_earlier (timeline w) past is.at; astray = astray };
        },
        few,
      )))
  raced b m past astray (at_missing deep follow name others e short first missing soon) = λ front parts trail few exact. inr (inr (
    record {
      goal = deep;
      front = front;
      follow = follow;
      name = name;
      rest = others;
      parts = parts ∙ ap (λ ps. front ++ ps) e;
      to = spot_at w (holds handle names) b m;
      trail = trail;
      first = first;
      missing = missing;
      when = u;
      astray = record { at = own_earlier (timeline w) soon is.at; astray = astray };
    },
    few,
  ))

  gone_astray : (Stands (state_at w u).nodes w.root handle.node names → ⊥) → AheadAt w end texts (suc u) (gives_up (handle.number ∷ []) Raced) n
      → AheadIn w end texts now (ending handle names rest) (suc n)
  gone_astray astray ahead = λ b m past ends.
      let fails = given_up w end texts (suc u) n (handle.number ∷ []) Raced ahead in
      record {
        front = [];
        rest = rest;
        parts = refl;
        passing = record {
          to = spot_at w (holds handle names) b m;
          next = None;
          trail = all m (le_refl m);
          paid = two_lines n fails.0;
          most = none_passed (0 + texts);
          exact = λ success. absurd (fails.2 success);
          tells = fails.1 rest (spot_at w (holds handle names) b m) None (raced b m past astray ends);
        };
      }

  -- what its answer leads to
  pub ending_ahead : AheadAt w end texts (suc u) (take w.way room (ending handle names rest) answer) n → AheadIn w end texts now (ending handle names rest) (suc n)
  ending_ahead ahead = judged_ahead lived now u handle names (ends_with handle names rest) answer is
      (root_open lived good.handles) good.position_held.is_open
      (λ v. take w.way room (ending handle names rest) v) (λ told. refl) refl
      (λ turn. AheadAt w end texts (suc u) turn n) (AheadIn w end texts now (ending handle names rest) (suc n))
      (λ stands kept a. stood stands a)
      gone_astray
      ahead

-- ---- closings

closing_pays : (n k : ℕ) → suc n + (k + 4) ≤ n + (suc k + 4)
closing_pays n k = omega arith

judging_pays : (n k : ℕ) → suc n + (k + 2) ≤ n + (suc k + 2)
judging_pays n k = omega arith

one_closing : (n k : ℕ) → n ≤ k → suc n ≤ suc k
one_closing n k le = omega (arith, le)

module _ {w : WalkInHistory} (lived : Lived w) (end : Turn) (texts now t n h : ℕ) where
  fails_after : (hs : List ℕ) (error : Errno) → AheadAt w end texts (suc t) (closes w.way hs (gives error)) n → Fails w end error n (length hs)
  fails_after [] error ahead = ahead
  fails_after (k ∷ hs) error ahead = ahead

  judges_after : (hs : List ℕ) (new : Handle) (names : List (List ℕ)) (rest : Todo) → AheadAt w end texts (suc t) (closes w.way hs (judges new names rest)) n
      → AheadJudging w end texts (suc t) new names rest n (length hs + 2)
  judges_after [] new names (todo inner rest b) ahead = λ own alone old name m s dir at is past.
      paid_for w end texts n 2 n (0 + 2) own Up inner rest (spot_at w (holds old (name ∷ names)) b m) (omega arith) (ahead own alone old name m s dir at is past)
  judges_after (k ∷ hs) new names (todo inner rest b) ahead = ahead

  -- what a Close leads to
  pub closing_ahead : (hs : List ℕ) (after : After) → GoodClosing w now h hs after → (answer : Answer) → StepAt w now t (Close h) answer
      → AheadAt w end texts (suc t) (closes w.way hs after) n → AheadIn w end texts now (closing h hs after) (suc n)
  closing_ahead hs (gives error) good answer is ahead =
      let fails = fails_after hs error ahead in
      (one_closing n (length hs) fails.0, fails.1, fails.2)
  closing_ahead hs (onward position (todo inner own b)) good answer is ahead = λ m past.
      paid_by n (length hs + 4) (suc n) (suc (length hs) + 4) (closing_pays n (length hs))
      (closes_ahead lived end texts (suc t) n hs position (rooted position inner good.comes.0)
      (position_less w t position gone good.apart.0 (position_kept w now t position is.kept good.comes.1))
      inner own b ahead m (le_trans past (le_trans is.at.later (le-suc t))))
    where
      gone : IsLess (state_at w t) w.actor (state_at w (suc t)) h
      gone = subst (λ s. IsLess (state_at w t) w.actor s h) (sym is.after) (Close-is_less (state_at w t) w.actor h)
  closing_ahead hs (judges new names (todo inner rest b)) good answer is ahead = λ own alone old name m s dir at is_parent past.
      paid_for w end texts n (length hs + 2) (suc n) (suc (length hs) + 2) own Up inner rest (spot_at w (holds old (name ∷ names)) b m) (judging_pays n (length hs))
      (judges_after hs new names (todo inner rest b) ahead own alone old name m s dir at is_parent (le_trans past (le_trans is.at.later (le-suc t))))

-- ---- steps that weren't made

module _ (w : WalkInHistory) (end : Turn) (texts now n : ℕ) where
  without_memory : (walk : Walking) → is_close (due w.way walk) ≡ false → AheadAt w end texts now (take w.way true walk (Refused NoMemory)) n → AheadIn w end texts now walk (suc n)
  without_memory (opening position own follow name (todo inner rest b)) e ahead =
      gave_up_in w end texts now now n (opening position own follow name (todo inner rest b)) (handles_of position) NoMemory (omega (arith, one_handle position)) (on_the_way w) ahead
  without_memory (reading position link (todo inner rest b)) e ahead =
      gave_up_in w end texts now now n (reading position link (todo inner rest b)) (link.number ∷ handles_of position) NoMemory (omega (arith, one_handle position)) (on_the_way w) ahead
  without_memory (rising old names rest) e ahead = gave_up_in w end texts now now n (rising old names rest) (old.number ∷ []) NoMemory (omega arith) (on_the_way w) ahead
  without_memory (judging new names rest) e ahead = gave_up_in w end texts now now n (judging new names rest) (new.number ∷ []) NoMemory (omega arith) (on_the_way w) ahead
  without_memory (duping rest) e ahead = nothing_in w end texts now (suc n) (λ rest to next. ahead.1 rest to next (on_the_way w rest to next), ahead.2) (duping rest) (one_line n 3 ahead.0 (omega arith))
  without_memory (ending handle names rest) e ahead = gave_up_in w end texts now now n (ending handle names rest) (handle.number ∷ []) NoMemory (omega arith) (on_the_way w) ahead
  without_memory (closing h hs after) e ahead = cc (e)

  without_room : (walk : Walking) → is_close (due w.way walk) ≡ false → AheadAt w end texts now (take w.way true walk (Refused BookFull)) n → AheadIn w end texts now walk (suc n)
  without_room (opening position own follow name (todo inner rest b)) e ahead =
      gave_up_in w end texts now now n (opening position own follow name (todo inner rest b)) (handles_of position) BookFull (omega (arith, one_handle position)) (on_the_way w) ahead
  without_room (reading position link (todo inner rest b)) e ahead =
      gave_up_in w end texts now now n (reading position link (todo inner rest b)) (link.number ∷ handles_of position) BookFull (omega (arith, one_handle position)) (on_the_way w) ahead
  without_room (rising old names rest) e ahead = gave_up_in w end texts now now n (rising old names rest) (old.number ∷ []) BookFull (omega arith) (on_the_way w) ahead
  without_room (judging new names rest) e ahead = gave_up_in w end texts now now n (judging new names rest) (new.number ∷ []) BookFull (omega arith) (on_the_way w) ahead
  without_room (duping rest) e ahead = nothing_in w end texts now (suc n) (λ rest to next. ahead.1 rest to next (on_the_way w rest to next), ahead.2) (duping rest) (one_line n 3 ahead.0 (omega arith))
  without_room (ending handle names rest) e ahead = gave_up_in w end texts now now n (ending handle names rest) (handle.number ∷ []) BookFull (omega arith) (on_the_way w) ahead
  without_room (closing h hs after) e ahead = cc (e)

  -- what a step that wasn't made leads to
  pub not_made_ahead : (error : Errno) → IsWant error → (walk : Walking) → is_close (due w.way walk) ≡ false
      → AheadAt w end texts now (take w.way true walk (Refused error)) n → AheadIn w end texts now walk (suc n)
  not_made_ahead error (inl e) walk open_step ahead =
      without_memory walk open_step (subst (λ x. AheadAt w end texts now (take w.way true walk (Refused x)) n) e ahead)
  not_made_ahead error (inr e) walk open_step ahead =
      without_room walk open_step (subst (λ x. AheadAt w end texts now (take w.way true walk (Refused x)) n) e ahead)
