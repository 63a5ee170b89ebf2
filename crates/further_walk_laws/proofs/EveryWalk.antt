-- How many lines each walk is told, by induction on what it is told.
use Rattle.std.specs.Prelude.{◌≡◌, ℕ, suc, ◌≤◌, ◌+◌, ◌*◌, List, [], ◌∷◌, Bool, true, false, if◌then◌else◌, length, None, refl}
use Rattle.std.proofs.Common.{ap, sym, subst, ◌∙◌, le_refl, inl, inr, length-append, arith}
use Rattle.path_text.specs.declared.errno.Errno.{Errno}
use Rattle.path_text.specs.declared.errno.Errno.TheVariants.{NoMemory, CrossRoot}
use Rattle.tree_model.specs.declared.answer.Answer.{Answer}
use Rattle.tree_model.specs.declared.answer.Answer.TheVariants.{Refused}
use Rattle.tree_model.specs.StepWith.{StepWith}
use Rattle.walk_plan.specs.Plan.{leads_out}
use Rattle.step_resolver.specs.Asked.{AskedPart}
use Rattle.step_resolver.specs.Meaning.{LINKS_MAX}
use Rattle.step_resolver.specs.Trail.{all}
use Rattle.step_resolver.specs.Order.{Handle, root_itself, holds, todo, Walking, opening, reading, rising, judging, duping, ending, closing, Turn, more, found, partial, failed, begins, goes_on, take, due, IsWant, Line, answered, no_room, not_made, LeadsTo}
use Rattle.step_resolver.specs.WalkHistory.{WalkInHistory, parts_of_walk, start}
use Rattle.step_resolver.specs.Failures.{TellsError, TellsWant, MetRefusal}
use Rattle.step_resolver.specs.Headline.{StoodAt, Opens, OpensDeepest, Tells}
use Rattle.step_resolver.specs.StepCount.{walk_passed}
use Rattle.step_resolver.proofs.Underway.WalkInvariant.{Lived, StepAt, Happens, spot_at, EndsAt, at_all, at_missing, GoodWalk, Good}
use Rattle.step_resolver.proofs.Underway.NextPart.{goes_on_good}
use Rattle.step_resolver.proofs.Underway.LegalHistory.{lived as lived_in, lines_happen}
use Rattle.step_resolver.proofs.Underway.AfterDupAndClose.{not_made_good}
use Rattle.step_resolver.proofs.Ends.EachEnd.{take_good, handles_at_first, going_first, wants_told}
use Rattle.step_resolver.proofs.Ends.EveryWalk.{tree_laws, walks_tell}
use Rattle.further_walk_laws.specs.TrailSteps.{passes_in, parts_told_by, parts_read, parts_met, FewLines, StepsByTrail}
use Rattle.further_walk_laws.proofs.TakenOff.{left_at, plan_taken_off}
use Rattle.further_walk_laws.proofs.Passing.{IsSuccess, TellsOf, tells_whole, on_the_way, Ahead, AheadAt, AheadIn, AheadAtEnd, none_read, free_in, nothing_in}
use Rattle.further_walk_laws.proofs.NextParts.{goes_on_ahead}
use Rattle.further_walk_laws.proofs.AfterOpen.{opening_ahead}
use Rattle.further_walk_laws.proofs.AfterReadLink.{reading_ahead}
use Rattle.further_walk_laws.proofs.AfterParent.{rising_ahead, judging_ahead}
use Rattle.further_walk_laws.proofs.AtEnds.{duping_ahead, ending_ahead, closing_ahead, not_made_ahead}

none_left : (n : ℕ) → 0 ≤ n
none_left n = omega arith

no_part : (p : AskedPart) (ps : List AskedPart) → p ∷ ps ≡ [] → ⊥
no_part p ps e = cc e

few_lines : (n k : ℕ) → n ≤ 4 + 4 * k → n ≤ 4 * k + 4
few_lines n k le = omega (arith, le)

-- what a walk that opens something took off its plan
abbrev TakesOff : WalkInHistory → Turn → Type 0
TakesOff w end = walk_passed w.way w.path w.lines + left_at end ≡ parts_met w (parts_of_walk w)

found_sum : (passes taken met : ℕ) → passes ≡ met → taken + 0 ≡ met → passes ≡ taken
found_sum passes taken met e sum = omega (arith, e, sum)

partial_sum : (passes taken front rest parts read : ℕ) → passes ≡ front + read → taken + rest ≡ parts + read → parts ≡ front + rest → passes ≡ taken
partial_sum passes taken front rest parts read e sum whole = omega (arith, e, sum, whole)

module _ {w : WalkInHistory} (lived : Lived w) where
  -- a step that reads no text
  no_text : (end : Turn) (texts now : ℕ) (walk : Walking) (n : ℕ) → AheadIn w end texts now walk n → AheadIn w end (0 + texts) now walk n
  no_text end texts now walk n ahead = subst (λ k. AheadIn w end k now walk n) (none_read texts) ahead

  -- what a step leads to, from what its answer leads to
  step_ahead : (end : Turn) (texts now t n : ℕ) (room : Bool) (walk : Walking) → GoodWalk w now walk → (answer : Answer) → StepAt w now t (due w.way walk) answer
      → AheadAt w end texts (suc t) (take w.way room walk answer) n → AheadIn w end (parts_told_by (due w.way walk) answer + texts) now walk (suc n)
  step_ahead end texts now t n room (opening position own follow name (todo inner rest b)) good answer is ahead = no_text end texts now (opening position own follow name (todo inner rest b)) (suc n)
      (opening_ahead lived end texts now t n room position own follow name inner rest b good answer is ahead)
  step_ahead end texts now t n room (reading position link (todo inner rest b)) good answer is ahead = λ own alone name m s text at past allowed is_link.
      reading_ahead lived end texts now t n room position link inner rest b good answer is own alone name m s text at past allowed is_link ahead
  step_ahead end texts now t n room (rising old names (todo inner rest b)) good answer is ahead = no_text end texts now (rising old names (todo inner rest b)) (suc n)
      (rising_ahead lived end texts now t n room old names inner rest b good answer is ahead)
  step_ahead end texts now t n room (judging new names (todo inner rest b)) good answer is ahead = no_text end texts now (judging new names (todo inner rest b)) (suc n)
      (judging_ahead lived end texts now t n room new names inner rest b good.0 good.1 answer is ahead)
  step_ahead end texts now t n room (duping rest) good answer is ahead = no_text end texts now (duping rest) (suc n)
      (duping_ahead lived end texts now t n room rest good answer is ahead)
  step_ahead end texts now t n room (ending handle names rest) good answer is ahead = no_text end texts now (ending handle names rest) (suc n)
      (ending_ahead lived end texts now t n room handle names rest good answer is ahead)
  step_ahead end texts now t n room (closing h hs after) good answer is ahead = no_text end texts now (closing h hs after) (suc n)
      (closing_ahead lived end texts now t n h hs after good answer is ahead)

  read_on : (end : Turn) (lines : List Line) (now : ℕ) (walk : Walking) (step : StepWith ℕ) (answer : Answer) → step ≡ due w.way walk
      → AheadIn w end (parts_told_by (due w.way walk) answer + parts_read lines) now walk (suc (length lines))
      → AheadIn w end (parts_told_by step answer + parts_read lines) now walk (suc (length lines))
  read_on end lines now walk step answer same ahead =
      subst (λ s. AheadIn w end (parts_told_by s answer + parts_read lines) now walk (suc (length lines))) (sym same) ahead

  at_the_end : (handle : Handle) (names : List (List ℕ)) (end : Turn) (rest : List AskedPart)
      → ((b m v : ℕ) → StoodAt w (spot_at w (holds handle names) b m) v → EndsAt w v (spot_at w (holds handle names) b m) rest
      → TellsOf w end rest (spot_at w (holds handle names) b m) None)
      → AheadAtEnd w end 0 handle names rest 0
  at_the_end handle names end rest tells = λ b m v at stands ends. record {
    front = [];
    rest = rest;
    parts = refl;
    passing = record {
      to = spot_at w (holds handle names) b m;
      next = None;
      trail = all m (le_refl m);
      paid = none_left (0 + 4 * 0);
      most = none_left 0;
      exact = λ success. refl;
      tells = tells b m v (record { at = at; stands = stands }) ends;
    };
  }

  found_told : (handle : Handle) (names : List (List ℕ)) → Opens w handle names → TakesOff w (found handle names) → (b m v : ℕ) → StoodAt w (spot_at w (holds handle names) b m) v
      → TellsOf w (found handle names) [] (spot_at w (holds handle names) b m) None
  found_told handle names opens plan b m v stood = tells_whole w (found handle names) [] (spot_at w (holds handle names) b m) None refl
      (λ trail few exact. (
        record {
          to = spot_at w (holds handle names) b m;
          trail = trail;
          node = refl;
          passed = refl;
          when = v;
          stood = stood;
          new = opens.new;
        },
        (few.0, exact tt, found_sum (passes_in trail) (walk_passed w.way w.path w.lines) (parts_met w (parts_of_walk w)) (exact tt) plan),
      ))

  partial_told : (handle : Handle) (names : List (List ℕ)) (rest : List AskedPart) → OpensDeepest w handle names rest → TakesOff w (partial handle names rest) → (b m v : ℕ)
      → StoodAt w (spot_at w (holds handle names) b m) v → EndsAt w v (spot_at w (holds handle names) b m) rest
      → TellsOf w (partial handle names rest) rest (spot_at w (holds handle names) b m) None
  partial_told handle names rest opens plan b m v stood (at_all e) = absurd (no_part _ _ (sym opens.begins_with ∙ e))
  partial_told handle names rest opens plan b m v stood (at_missing deep follow n others e short first missing past) = λ front parts trail few exact. (
    record {
      goal = deep;
      front = front;
      parts = parts;
      to = spot_at w (holds handle names) b m;
      trail = trail;
      node = refl;
      passed = refl;
      follow = follow;
      name = n;
      others = others;
      begins_with = e;
      short = short;
      first = first;
      missing = missing;
      when = v;
      stood = stood;
      after = past;
      new = opens.new;
    },
    (
      few.0,
      exact tt,
      partial_sum (passes_in trail) (walk_passed w.way w.path w.lines) (length front) (length rest) (length (parts_of_walk w)) (parts_read w.lines)
          (exact tt) plan (ap length parts ∙ length-append front rest),
    ),
  )

  -- with no line left
  ahead_at_once : (now : ℕ) (turn : Turn) → Tells w turn → (IsSuccess turn → TakesOff w turn) → AheadAt w turn 0 now turn 0
  ahead_at_once now (more walk) tells plan = nothing_in w (more walk) 0 now 0 (on_the_way w, λ none. none) walk (none_left (free_in walk))
  ahead_at_once now (found handle names) tells plan =
      at_the_end handle names (found handle names) [] (λ b m v stood ends. found_told handle names tells (plan tt) b m v stood)
  ahead_at_once now (partial handle names rest) tells plan =
      at_the_end handle names (partial handle names rest) rest (λ b m v stood ends. partial_told handle names rest tells (plan tt) b m v stood ends)
  ahead_at_once now (failed error) tells plan = (none_left 0, λ rest to next told. told, λ none. none)

  lines_ahead : (lines : List Line) (now : ℕ) (turn end : Turn) → Tells w end → (IsSuccess end → TakesOff w end) → Good w now turn → Happens w now lines → LeadsTo w.way turn lines end
      → ((error : Errno) → IsWant error → TellsWant error lines → TellsError w error)
      → ((step : StepWith ℕ) → MetRefusal step lines → MetRefusal step w.lines) → AheadAt w end (parts_read lines) now turn (length lines)
  lines_ahead [] now turn end tells plan good happens leads wants mets = subst (λ e. AheadAt w e 0 now turn 0) leads (ahead_at_once now turn (subst (Tells w) (sym leads) tells)
      (subst (λ e. IsSuccess e → TakesOff w e) (sym leads) plan))
  lines_ahead (answered step answer ∷ lines) now (more walk) end tells plan good happens leads wants mets =
      let is = subst (λ s. StepAt w now happens.0 s answer) leads.0 happens.1.0 in
      read_on end lines now walk step answer leads.0 (step_ahead end (parts_read lines) now happens.0 (length lines) true walk good answer is
      (lines_ahead lines (suc happens.0) (take w.way true walk answer) end tells plan
      (take_good lived true (λ e. cc (e)) now happens.0 walk good answer is (λ e. mets (due w.way walk) (inl (leads.0, e))))
      happens.1.1 leads.1 (λ error is want. wants error is (inr want)) (λ s m. mets s (inr m))))
  lines_ahead (no_room step answer ∷ lines) now (more walk) end tells plan good happens leads wants mets =
      let is = subst (λ s. StepAt w now happens.0 s answer) leads.0 happens.1.0 in
      read_on end lines now walk step answer leads.0 (step_ahead end (parts_read lines) now happens.0 (length lines) false walk good answer is
      (lines_ahead lines (suc happens.0) (take w.way false walk answer) end tells plan
      (take_good lived false (λ e. wants NoMemory (inl refl) (inl refl)) now happens.0 walk good answer is (λ e. mets (due w.way walk) (inl (leads.0, e))))
      happens.1.1 leads.1 (λ error is want. wants error is (inr want)) (λ s m. mets s (inr m))))
  lines_ahead (not_made error ∷ lines) now (more walk) end tells plan good happens leads wants mets =
      not_made_ahead w end (parts_read lines) now (length lines) error leads.0.0 walk leads.0.1
      (lines_ahead lines now (take w.way true walk (Refused error)) end tells plan
      (not_made_good lived now error leads.0.0 (wants error leads.0.0 (inl refl)) walk leads.0.1 good)
      happens leads.1 (λ cause is want. wants cause is (inr want)) (λ s m. mets s (inr m)))
  lines_ahead (line ∷ lines) now (found handle names) end tells plan good happens leads wants mets = absurd leads
  lines_ahead (line ∷ lines) now (partial handle names rest) end tells plan good happens leads wants mets = absurd leads
  lines_ahead (line ∷ lines) now (failed error) end tells plan good happens leads wants mets = absurd leads

  -- a walk that fails at once is told no line
  no_lines : (lines : List Line) (end : Turn) → LeadsTo w.way (failed CrossRoot) lines end → (lines ≡ []) × (failed CrossRoot ≡ end)
  no_lines [] end leads = (refl, leads)
  no_lines (line ∷ lines) end leads = absurd leads

  -- the lines of a walk are few
  walk_is_few : (end : Turn) → Tells w end → Happens w 0 w.lines → LeadsTo w.way (begins w.way w.path) w.lines end → FewLines w end
  walk_is_few end tells happens leads = on (leads_out w.path.absolute w.way.flags) leads
    where
      passed : Ahead w end (parts_read w.lines) [] (parts_of_walk w) (start w) (length w.lines) 4 → FewLines w end
      passed a = a.passing.tells a.front a.parts a.passing.trail (few_lines (length w.lines) (passes_in a.passing.trail) a.passing.paid, a.passing.most) a.passing.exact

      on : (x : Bool) → LeadsTo w.way (if x then failed CrossRoot else goes_on w.way root_itself (todo [] (parts_of_walk w) LINKS_MAX)) w.lines end → FewLines w end
      on true l =
          let none = no_lines w.lines end l in
          subst (FewLines w) none.1 (inl none.0)
      on false l = passed (goes_on_ahead lived end (parts_read w.lines) 0 (length w.lines) root_itself (λ none. refl) tt [] (parts_of_walk w) LINKS_MAX
          (lines_ahead w.lines 0 (goes_on w.way root_itself (todo [] (parts_of_walk w) LINKS_MAX)) end tells (λ success. plan_taken_off w.way w.path w.lines end leads success)
          (goes_on_good lived 0 root_itself [] (parts_of_walk w) LINKS_MAX (going_first lived) tt
          (handles_at_first lived)) happens l (wants_told lived) (λ step m. m))
          0 (le_refl 0))

-- each walk in each legal history was told few lines for the parts that its trail passes
pub steps_by_trail : StepsByTrail
steps_by_trail w end is leads = walk_is_few (lived_in tree_laws w is) end (walks_tell w end is leads) (lines_happen tree_laws w is) leads
