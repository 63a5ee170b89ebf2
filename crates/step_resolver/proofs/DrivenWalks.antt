-- A walk that is driven on a tree where nobody else acts: it goes on step by step, and its end is what the path means.
use Rattle.std.proofs.Common.{◌≡◌, ◌≢◌, ℕ, zero, suc, ◌+◌, ◌≤◌, ◌<◌, Bool, true, false, cond, List, [], ◌∷◌, ◌++◌, length, take, refl, sym, ap, ◌∙◌, subst, inl, inr, arith, eq-eqb, length-append, ⊎_elim}
use Rattle.std.specs.List.{All}
use Rattle.std.specs.Prelude.{Some, None, slice_get, reverse, Result, Ok, Err}
use Rattle.std.proofs.lemmas.Bool.{leb-true, or_cases, false≢true}
use Rattle.std.proofs.lemmas.List.Elements.{All-nil, All-cons}
use Rattle.std.proofs.lemmas.Option.{none-some, same_Some}
use Rattle.path_text.specs.declared.errno.Errno.{Errno}
use Rattle.path_text.specs.declared.errno.Errno.TheVariants.{NoMemory, BookFull, TooMany}
use Rattle.path_text.specs.declared.path.TheConstants.{PARTS_MAX}
use Rattle.path_text.specs.Reading.{Reading}
use Rattle.tree_model.specs.declared.answer.Answer.{Answer}
use Rattle.tree_model.specs.declared.answer.Event.{Event}
use Rattle.tree_model.specs.declared.tree.TheConstants.{HANDLES_MAX, NUMBERS_MAX}
use Rattle.tree_model.specs.StepWith.{StepWith}
use Rattle.tree_model.specs.State.{State, object_at, Stands}
use Rattle.tree_model.specs.Steps.{held, outcome, held_count}
use Rattle.tree_model.specs.Trees.{IsState}
use Rattle.tree_model.specs.History.{IsLegal, after_events, tree_at}
use Rattle.tree_model.specs.StepLaws.{NodesAreLeft}
use Rattle.tree_model.specs.HistoryLaws.{LegalHistoriesJoin, NumbersGrowByEvents, HistoriesKeepTrees, HandlesStayAmongOthers}
use Rattle.handles.specs.declared.owner.Owner.{Owner}
use Rattle.handles.specs.Objects.{StandingObject}
use Rattle.walk_plan.specs.declared.goal.Goal.{Goal}
use Rattle.step_resolver.specs.Asked.{asked, follows, is_deepest}
use Rattle.step_resolver.specs.Meaning.{Ground, Meant, object, fails, reading_means}
use Rattle.step_resolver.specs.Order.{Way, Walking, Turn, more, found, partial, failed, begins, for_walk, due, walks, Line, answered, no_room, not_made, events_of, LeadsTo, steps_left_at}
use Rattle.step_resolver.specs.Order.{take as takes}
use Rattle.step_resolver.specs.Failures.{TellsTooMany, TellsWant, TellsError}
use Rattle.step_resolver.specs.Footprint.{is_want, is_for_want, IsMeant, IsEnd}
use Rattle.step_resolver.specs.Headline.{IsNewHandle, WalksTell}
use Rattle.step_resolver.specs.WalkHistory.{WalkInHistory, IsWalkInHistory, own_events}
use Rattle.step_resolver.specs.FootprintLaws.{QuietWalksMean, IsQuiet, IsQuietEnd}
use Rattle.step_resolver.specs.Deepest.{Deep, whole, up_to, none, reading_deepest, IsMeantDeep}
use Rattle.step_resolver.specs.TurnsTell.{first_lines}
use Rattle.step_resolver.specs.View.{WalkView}
use Rattle.step_resolver.specs.TurnView.{turn_view, Keeps, standing_handle, steps_to_come, STEPS_MAX, StartsTo, TakesTo}
use Rattle.step_resolver.specs.declared.walk.Turn.{Turn as Outcome}
use Rattle.step_resolver.specs.declared.walk.Turn.TheVariants as turn
use Rattle.step_resolver.specs.declared.driver.Resolved.{Resolved}
use Rattle.step_resolver.specs.declared.driver.Resolved.TheVariants.{Found, Partial}
use Rattle.step_machine.specs.OnTree.{IsAnswer}
use Rattle.step_machine.proofs.Closes.{takes_memory}
use Rattle.step_resolver.specs.Driver.{IsReady, IsWithoutBook, Drives, IsObject, Resolves, ResolvesDeep, ResolvesFor, standing_of, LeavesOwn, LeavesHandles, opened_count, LeavesRoom, IsOwned}
use Rattle.step_resolver.proofs.Underway.HandleCount.{same_count, one_more}
use Rattle.step_resolver.proofs.FirstTurns.{first_lines_lead}
use Rattle.step_machine.proofs.Runs.{leads_on}
use Rattle.step_resolver.proofs.TurnsTell.{line_leads}
use Rattle.step_resolver.proofs.WalkSteps.{FewerThan, a_step_left, begins_few}
use Rattle.step_resolver.proofs.Ends.EntriesLeftAlone.{due_tells}
use Rattle.step_resolver.proofs.Ends.DeepestMeaning.{follows_deepest}

-- ---- step by step

seen_steps : (goal : Goal) (outcome : Outcome) → steps_left_at (turn_view goal outcome) ≡ steps_to_come outcome
seen_steps goal (turn.More walk) = refl
seen_steps goal (turn.Found standing) = refl
seen_steps goal (turn.Partial standing rest) = refl
seen_steps goal (turn.Failed error) = refl

module _ (leave : NodesAreLeft) (way : Way) (a : ℕ) (s t : State) (walking : Walking) (answer : Answer) (to : Turn)
    (fewer : steps_left_at to < steps_left_at (more walking)) where
  made : (room : Bool) → to ≡ takes way room walking answer
      → answer ≡ (outcome s a (due way walking)).answer → t ≡ (outcome s a (due way walking)).after → Drives way a s (more walking) t to
  made true taken told after = record {
    lines = answered (due way walking) answer ∷ [];
    leads = line_leads way true walking answer to (answered (due way walking) answer) taken (refl, refl, refl);
    legal = (told, tt);
    after = sym after;
    nodes = ap (λ (u : State). u.nodes) after ∙ leave s a (due way walking) (due_tells way walking);
    without_book = tt;
    fewer = omega (arith, fewer);
  }
  made false taken told after = record {
    lines = no_room (due way walking) answer ∷ [];
    leads = line_leads way false walking answer to (no_room (due way walking) answer) taken (refl, refl, refl);
    legal = (told, tt);
    after = sym after;
    nodes = ap (λ (u : State). u.nodes) after ∙ leave s a (due way walking) (due_tells way walking);
    without_book = tt;
    fewer = omega (arith, fewer);
  }

  -- what the answer to a due step makes of the walk is driven by one step
  pub advanced : IsAnswer (due way walking) a s t answer → TakesTo way walking answer to → Drives way a s (more walking) t to
  advanced (inl is) taken = made taken.0 taken.1 is.0 is.1
  advanced (inr is) taken = record {
    lines = not_made NoMemory ∷ [];
    leads = line_leads way taken.0 walking answer to (not_made NoMemory) taken.1 ((inl refl, takes_memory (due way walking) is.0), is.1);
    legal = tt;
    after = sym is.2;
    nodes = ap (λ (u : State). u.nodes) is.2;
    without_book = (refl, tt);
    fewer = omega (arith, fewer);
  }

pub advanced_to : NodesAreLeft → (way : Way) (a : ℕ) (s t : State) (walking : Walking) (answer : Answer) (goal : Goal) (outcome : Outcome)
    → steps_to_come outcome < steps_left_at (more walking) → (step : StepWith ℕ) → step ≡ due way walking → IsAnswer step a s t answer → TakesTo way walking answer (turn_view goal outcome)
    → Drives way a s (more walking) t (turn_view goal outcome)
advanced_to leave way a s t walking answer goal outcome fewer step is_due is taken =
    advanced leave way a s t walking answer (turn_view goal outcome) (subst (λ n. n < steps_left_at (more walking)) (sym (seen_steps goal outcome)) fewer)
    (subst (λ x. IsAnswer x a s t answer) is_due is) taken

-- ---- one after another

pub joined_events : (a : ℕ) (lines others : List Line) → events_of a (lines ++ others) ≡ events_of a lines ++ events_of a others
joined_events a [] others = refl
joined_events a (answered step answer ∷ lines) others = ap (λ es. record { actor = a; step = step; answer = answer } ∷ es) (joined_events a lines others)
joined_events a (no_room step answer ∷ lines) others = ap (λ es. record { actor = a; step = step; answer = answer } ∷ es) (joined_events a lines others)
joined_events a (not_made error ∷ lines) others = joined_events a lines others

pub joined_without_book : (lines others : List Line) → IsWithoutBook lines → IsWithoutBook others → IsWithoutBook (lines ++ others)
joined_without_book [] others first second = second
joined_without_book (answered step answer ∷ lines) others first second = joined_without_book lines others first second
joined_without_book (no_room step answer ∷ lines) others first second = joined_without_book lines others first second
joined_without_book (not_made error ∷ lines) others first second = (first.0, joined_without_book lines others first.1 second)

drives_none : (way : Way) (a : ℕ) (s : State) (turn : Turn) → Drives way a s turn s turn
drives_none way a s turn = record { lines = []; leads = refl; legal = tt; after = refl; nodes = refl; without_book = tt; fewer = omega arith }

drives_on : LegalHistoriesJoin → (way : Way) (a : ℕ) (s t u : State) (from mid to : Turn)
    → Drives way a s from t mid → Drives way a t mid u to → Drives way a s from u to
drives_on join way a s t u from mid to first second =
    let es = events_of a first.lines in
    let fs = events_of a second.lines in
    let joined = joined_events a first.lines second.lines in
    let both = join s es fs in
    let few = first.fewer in
    let fewer = second.fewer in
    record {
      lines = first.lines ++ second.lines;
      leads = leads_on (walks way) first.lines from mid second.lines to first.leads second.leads;
      legal = subst (IsLegal s) (sym joined) (both.0.1 (first.legal, subst (λ v. IsLegal v fs) (sym first.after) second.legal));
      after = ap (after_events s) joined ∙ both.1 ∙ ap (λ v. after_events v fs) first.after ∙ second.after;
      nodes = second.nodes ∙ first.nodes;
      without_book = joined_without_book first.lines second.lines first.without_book second.without_book;
      fewer = omega (arith, few, fewer, length-append first.lines second.lines);
    }

-- ---- the end

pub all_own : (a : ℕ) (lines : List Line) → own_events a (events_of a lines) ≡ events_of a lines
all_own a [] = refl
all_own a (answered step answer ∷ lines) =
    ap (λ b. cond b (record { actor = a; step = step; answer = answer } ∷ own_events a (events_of a lines)) (own_events a (events_of a lines))) (eq-eqb a a refl)
    ∙ ap (λ es. record { actor = a; step = step; answer = answer } ∷ es) (all_own a lines)
all_own a (no_room step answer ∷ lines) =
    ap (λ b. cond b (record { actor = a; step = step; answer = answer } ∷ own_events a (events_of a lines)) (own_events a (events_of a lines))) (eq-eqb a a refl)
    ∙ ap (λ es. record { actor = a; step = step; answer = answer } ∷ es) (all_own a lines)
all_own a (not_made error ∷ lines) = all_own a lines

pub by_own : (a : ℕ) (lines : List Line) (t : ℕ) (event : Event) → slice_get (events_of a lines) t ≡ Some event → event.actor ≡ a
by_own a [] t event e = absurd (none-some event e)
by_own a (answered step answer ∷ lines) zero event e = sym (ap (λ (v : Event). v.actor) (same_Some _ event e))
by_own a (answered step answer ∷ lines) (suc t) event e = by_own a lines t event e
by_own a (no_room step answer ∷ lines) zero event e = sym (ap (λ (v : Event). v.actor) (same_Some _ event e))
by_own a (no_room step answer ∷ lines) (suc t) event e = by_own a lines t event e
by_own a (not_made error ∷ lines) t event e = by_own a lines t event e

few_events : (a : ℕ) (lines : List Line) → length (events_of a lines) ≤ length lines
few_events a [] = omega arith
few_events a (answered step answer ∷ lines) = let rest = few_events a lines in omega (arith, rest)
few_events a (no_room step answer ∷ lines) = let rest = few_events a lines in omega (arith, rest)
few_events a (not_made error ∷ lines) = let rest = few_events a lines in omega (arith, rest)

no_more : {A : Type 0} (m : ℕ) (xs : List A) → length (take m xs) ≤ length xs
no_more zero xs = omega arith
no_more (suc m) [] = omega arith
no_more (suc m) (x ∷ xs) = let rest = no_more m xs in omega (arith, rest)

no_book_full : (lines : List Line) → IsWithoutBook lines → TellsWant BookFull lines → ⊥
no_book_full [] is tells = tells
no_book_full (answered step answer ∷ lines) is (inl tells) = tells
no_book_full (answered step answer ∷ lines) is (inr tells) = no_book_full lines is tells
no_book_full (no_room step answer ∷ lines) is (inl tells) = cc (tells)
no_book_full (no_room step answer ∷ lines) is (inr tells) = no_book_full lines is tells
no_book_full (not_made error ∷ lines) is (inl tells) = cc (is.0, tells)
no_book_full (not_made error ∷ lines) is (inr tells) = no_book_full lines is.1 tells

-- the laws that are used
pub record Laws : Type 0 where
  pub tell : WalksTell
  pub quiet : QuietWalksMean
  pub trees : HistoriesKeepTrees
  pub numbers : NumbersGrowByEvents
  pub others : HandlesStayAmongOthers

others_than : (a b : ℕ) → b ≢ a → (event : Event) → event.actor ≡ a → (events : List Event) → All (λ (e : Event). e.actor ≢ b) events → All (λ (e : Event). e.actor ≢ b) (event ∷ events)
others_than a b ne event is events all = let other : event.actor ≢ b = λ e. ne (sym e ∙ is) in All-cons (λ (e : Event). e.actor ≢ b) event events other all

all_by : (a b : ℕ) → b ≢ a → (lines : List Line) → All (λ (event : Event). event.actor ≢ b) (events_of a lines)
all_by a b ne [] = All-nil _
all_by a b ne (answered step answer ∷ lines) = others_than a b ne (record { actor = a; step = step; answer = answer }) refl (events_of a lines) (all_by a b ne lines)
all_by a b ne (no_room step answer ∷ lines) = others_than a b ne (record { actor = a; step = step; answer = answer }) refl (events_of a lines) (all_by a b ne lines)
all_by a b ne (not_made error ∷ lines) = all_by a b ne lines

-- the turn that a result is
abbrev pub turn_of : Result Resolved Errno → Outcome
turn_of (Ok (Found standing)) = turn.Found standing
turn_of (Ok (Partial standing rest)) = turn.Partial standing rest
turn_of (Err error) = turn.Failed error

module _ (laws : Laws) (s t : State) (a r : ℕ) (way : Way) (path : Reading) (ready : IsReady s a way.root r)
    (few : steps_left_at (begins way path) ≤ STEPS_MAX) where
  abbrev ground_here : Ground
  ground_here = record { nodes = s.nodes; root = r; flags = way.flags }

  abbrev meant_here : Meant
  meant_here = reading_means ground_here path (follows way.goal)

  abbrev deepest_here : Deep
  deepest_here = reading_deepest ground_here path

  abbrev DrivesTo : Turn → Type 0
  DrivesTo end = Drives way a s (begins way path) t end

  module _ (end : Turn) (d : DrivesTo end) where
    abbrev walked : WalkInHistory
    walked = record {
      opening = s;
      before = [];
      window = events_of a d.lines;
      actor = a;
      way = way;
      root = r;
      path = path;
      lines = d.lines;
    }

    is_walked : IsWalkInHistory walked
    is_walked = record {
      tree = ready.tree;
      legal_before = tt;
      legal = d.legal;
      own = all_own a d.lines;
      root = ready.held;
      root_is_dir = ready.directory;
    }

    is_quiet : IsQuiet walked
    is_quiet k event e = by_own a d.lines k event e

    quiet_end : IsEnd end → is_for_want end ≡ false → IsQuietEnd walked end
    quiet_end over e = laws.quiet walked end is_walked d.leads over is_quiet e

    not_too_many : TellsTooMany walked → ⊥
    not_too_many tells =
        let grown = (laws.numbers s (take tells.when (events_of a d.lines))).1 in
        let shorter = no_more tells.when (events_of a d.lines) in
        let events = few_events a d.lines in
        let fewer = d.fewer in
        let numbers = ready.numbers in
        let count = tells.few in
        let own = ready.few in
        ⊎_elim
        (λ q. let over = leb-true HANDLES_MAX (held_count (tree_at s (events_of a d.lines) tells.when) a) q in omega (arith, over, count, own))
        (λ q. let over = leb-true NUMBERS_MAX (length (tree_at s (events_of a d.lines) tells.when).handles) q in
        omega (arith, over, grown, shorter, events, fewer, numbers, few))
        (or_cases _ _ tells.full)

    -- what is held at the end is the object x, where that is its node and it stands at its names
    object_by : (standing : StandingObject) → IsNewHandle walked (standing_handle standing) → (x : ℕ) → standing.node ≡ x
        → (after_events s (events_of a d.lines)).nodes ≡ s.nodes → Stands s.nodes r standing.node (reverse standing.names) → IsObject s.nodes r x standing
    object_by standing new x e nodes names = record {
      node = e;
      what = new.what;
      is_what = ap (λ ns. object_at ns x) (sym nodes) ∙ ap (λ y. object_at (after_events s (events_of a d.lines)).nodes y) (sym e) ∙ new.is_what;
      kind = sym new.kind;
      names = subst (λ y. Stands s.nodes r y (reverse standing.names)) e names;
    }

    -- beside a new handle the actor's open ones are those from before
    new_handle : (standing : StandingObject) → IsNewHandle walked (standing_handle standing)
        → (held t a standing.handle ≡ Some standing.node) × (held s a standing.handle ≡ None)
        × ((h : ℕ) → h ≢ standing.handle → held t a h ≡ held s a h)
    new_handle standing new = (
      ap (λ (u : State). held u a standing.handle) (sym d.after) ∙ new.is_open,
      new.fresh,
      (λ k other. ap (λ (u : State). held u a k) (sym d.after) ∙ new.others k other),
    )

  -- of the errors that are wants, only that of memory comes
  want_of_memory : (error : Errno) → DrivesTo (failed error) → is_for_want (failed error) ≡ true → error ≡ NoMemory
  want_of_memory error d w = told error refl w
    where
      tells : TellsError (walked (failed error) d) error
      tells = (laws.tell (walked (failed error) d) (failed error) (is_walked (failed error) d) d.leads).true_once

      told : (e : Errno) → error ≡ e → is_want e ≡ true → error ≡ NoMemory
      told NoMemory q w = q
      told TooMany q w = absurd (not_too_many (failed error) d (subst (λ x. TellsError (walked (failed error) d) x) q tells))
      told BookFull q w = absurd (no_book_full d.lines d.without_book (subst (λ x. TellsError (walked (failed error) d) x) q tells))
      told _ q w = absurd (false≢true w)

  -- the end is what the whole path means
  resolves_whole : is_deepest way.goal ≡ false → (result : Result Resolved Errno) → DrivesTo (turn_view way.goal (turn_of result))
      → Resolves s.nodes r meant_here result
  resolves_whole no_deep (Ok (Found standing)) d = on meant_here (quiet.means no_deep)
    where
      end : Turn
      end = found (standing_handle standing) (reverse standing.names)

      quiet : IsQuietEnd (walked end d) end
      quiet = quiet_end end d tt refl

      on : (m : Meant) → IsMeant m end → Resolves s.nodes r m (Ok (Found standing))
      on (object x b reads) e =
          object_by end d standing (laws.tell (walked end d) end (is_walked end d) d.leads).new x e quiet.nodes quiet.names
      on (fails error reads) e = e
  resolves_whole no_deep (Ok (Partial standing rest)) d =
      let end : Turn = partial (standing_handle standing) (reverse standing.names) (asked (follows way.goal) rest) in
      absurd (false≢true (sym no_deep ∙ (laws.tell (walked end d) end (is_walked end d) d.leads).goal))
  resolves_whole no_deep (Err error) d = on_want (is_want error) refl
    where
      memory : (m : Meant) → error ≡ NoMemory → Resolves s.nodes r m (Err error)
      memory (object x b reads) e = e
      memory (fails cause reads) e = inl e

      meant : (m : Meant) → IsMeant m (failed error) → Resolves s.nodes r m (Err error)
      meant (object x b reads) e = absurd e
      meant (fails cause reads) e = inr e

      on_want : (b : Bool) → is_want error ≡ b → Resolves s.nodes r meant_here (Err error)
      on_want true w = memory meant_here (want_of_memory error d w)
      on_want false w = meant meant_here ((quiet_end (failed error) d tt w).means no_deep)

  -- and so for the deepest directory
  resolves_deepest : is_deepest way.goal ≡ true → (result : Result Resolved Errno) → DrivesTo (turn_view way.goal (turn_of result))
      → ResolvesDeep s.nodes r deepest_here result
  resolves_deepest deep (Ok (Found standing)) d = on deepest_here (quiet.deepest deep)
    where
      end : Turn
      end = found (standing_handle standing) (reverse standing.names)

      quiet : IsQuietEnd (walked end d) end
      quiet = quiet_end end d tt refl

      on : (m : Deep) → IsMeantDeep m end → ResolvesDeep s.nodes r m (Ok (Found standing))
      on (whole x b reads) e =
          object_by end d standing (laws.tell (walked end d) end (is_walked end d) d.leads).new x e quiet.nodes quiet.names
      on (up_to x b missing reads) e = e
      on (none error reads) e = e
  resolves_deepest deep (Ok (Partial standing rest)) d = on deepest_here (quiet.deepest deep)
    where
      end : Turn
      end = partial (standing_handle standing) (reverse standing.names) (asked (follows way.goal) rest)

      quiet : IsQuietEnd (walked end d) end
      quiet = quiet_end end d tt refl

      on : (m : Deep) → IsMeantDeep m end → ResolvesDeep s.nodes r m (Ok (Partial standing rest))
      on (whole x b reads) e = e
      on (up_to x b missing reads) e = (
        object_by end d standing (laws.tell (walked end d) end (is_walked end d) d.leads).new x e.0 quiet.nodes quiet.names,
        ap (λ follow. asked follow rest) (sym (follows_deepest way.goal deep)) ∙ e.1,
      )
      on (none error reads) e = e
  resolves_deepest deep (Err error) d = on_want (is_want error) refl
    where
      memory : (m : Deep) → error ≡ NoMemory → ResolvesDeep s.nodes r m (Err error)
      memory (whole x b reads) e = e
      memory (up_to x b missing reads) e = e
      memory (none cause reads) e = inl e

      meant : (m : Deep) → IsMeantDeep m (failed error) → ResolvesDeep s.nodes r m (Err error)
      meant (whole x b reads) e = absurd e
      meant (up_to x b missing reads) e = absurd e
      meant (none cause reads) e = inr e

      on_want : (b : Bool) → is_want error ≡ b → ResolvesDeep s.nodes r deepest_here (Err error)
      on_want true w = memory deepest_here (want_of_memory error d w)
      on_want false w = meant deepest_here ((quiet_end (failed error) d tt w).deepest deep)

  -- for each goal
  resolved_by : (result : Result Resolved Errno) → DrivesTo (turn_view way.goal (turn_of result))
      → ResolvesFor (is_deepest way.goal) ground_here path way.goal result
  resolved_by result d = on (is_deepest way.goal) refl
    where
      on : (b : Bool) → is_deepest way.goal ≡ b → ResolvesFor b ground_here path way.goal result
      on true e = resolves_deepest e result d
      on false e = resolves_whole e result d

  -- the handles that are open then
  leaves_own : (result : Result Resolved Errno) → DrivesTo (turn_view way.goal (turn_of result)) → LeavesOwn s a t result
  leaves_own (Ok (Found standing)) d = new_handle _ d standing (laws.tell (walked _ d) _ (is_walked _ d) d.leads).new
  leaves_own (Ok (Partial standing rest)) d = new_handle _ d standing (laws.tell (walked _ d) _ (is_walked _ d) d.leads).new
  leaves_own (Err error) d =
      let stay = (laws.tell (walked _ d) _ (is_walked _ d) d.leads).handles in
      λ k. ap (λ (u : State). held u a k) (sym d.after) ∙ stay k

  handles_by : (result : Result Resolved Errno) → DrivesTo (turn_view way.goal (turn_of result)) → LeavesHandles s a t result
  handles_by result d = record {
    own = leaves_own result d;
    others = λ b ne h. ap (λ (u : State). held u b h) (sym d.after) ∙ laws.others s (events_of a d.lines) b (all_by a b ne d.lines) h;
  }

  -- how many they are
  few_by : (result : Result Resolved Errno) → LeavesOwn s a t result → held_count t a ≤ opened_count result + held_count s a
  few_by (Ok resolved) own = let more = one_more a s.handles t.handles (standing_of resolved).handle own.2 in omega (arith, more)
  few_by (Err error) own = let same = same_count a s.handles t.handles own in omega (arith, same)

  -- the tree and its numbers then
  room_by : (result : Result Resolved Errno) → DrivesTo (turn_view way.goal (turn_of result)) → LeavesRoom s a t result
  room_by result d =
      let grown = subst (λ (u : State). length u.handles ≤ length s.handles + length (events_of a d.lines)) d.after (laws.numbers s (events_of a d.lines)).1 in
      let events = few_events a d.lines in
      let fewer = d.fewer in
      record {
        tree = subst IsState d.after (laws.trees s (events_of a d.lines) ready.tree).0;
        few = few_by result (leaves_own result d);
        numbers = omega (arith, grown, events, fewer, few);
      }

-- how many steps a walk has at most
pub few_steps : (way : Way) (path : Reading) → length path.parts ≤ PARTS_MAX → steps_left_at (begins way path) ≤ STEPS_MAX
few_steps way path few = by_turn (begins way path) (begins_few way path few) where
  by_turn : (turn : Turn) → FewerThan (suc STEPS_MAX) turn → steps_left_at turn ≤ STEPS_MAX
  by_turn (more walking) few = omega arith
  by_turn (found handle names) few = omega arith
  by_turn (partial handle names rest) few = omega arith
  by_turn (failed error) few = omega arith

-- from the first turn on, with room for the walk or without
pub drives_begun : (way : Way) (a : ℕ) (s : State) (path : Reading) (turn : Turn) → StartsTo way path turn → Drives way a s (begins way path) s turn
drives_begun way a s path turn starts =
    subst (λ z. Drives way a s (begins way path) s z) (sym starts.1) (with_room starts.0 (begins way path) (first_lines_lead way starts.0 path)) where
      with_room : (room : Bool) (first : Turn) → LeadsTo way first (first_lines room first) (for_walk room first) → Drives way a s first s (for_walk room first)
      with_room true first leads = drives_none way a s first
      with_room false (more walking) leads = record {
        lines = not_made NoMemory ∷ [];
        leads = leads;
        legal = tt;
        after = refl;
        nodes = refl;
        without_book = (refl, tt);
        fewer = omega (arith, a_step_left walking);
      }
      with_room false (found handle names) leads = drives_none way a s (found handle names)
      with_room false (partial handle names rest) leads = drives_none way a s (partial handle names rest)
      with_room false (failed error) leads = drives_none way a s (failed error)

-- a walk that was driven here, and is still this owner's and on this way
pub record IsDriven (owner : Owner) (way : Way) (s : State) (path : Reading) (t : State) (outcome : Outcome) : Type 0 where
  pub kept : Keeps owner way outcome
  pub driven : Drives way owner.actor s (begins way path) t (turn_view way.goal outcome)

-- it goes on by one step more
pub driven_on : LegalHistoriesJoin → (owner : Owner) (way : Way) (s t u : State) (path : Reading) (outcome next : Outcome) (walk : WalkView)
    → outcome ≡ turn.More walk → IsDriven owner way s path t outcome → Keeps walk.owner walk.way next
    → Drives walk.way owner.actor t (more walk.walking) u (turn_view walk.way.goal next) → IsDriven owner way s path u next
driven_on join owner way s t u path outcome next walk e here keeps d =
    let at : IsDriven owner way s path t (turn.More walk) = subst (λ o. IsDriven owner way s path t o) e here in
    record {
      kept = subst (λ (o : Owner). Keeps o way next) at.kept.0 (subst (λ (v : Way). Keeps walk.owner v next) at.kept.1 keeps);
      driven = drives_on join way owner.actor s t u (begins way path) (more walk.walking) (turn_view way.goal next) at.driven
          (subst (λ (v : Way). Drives v owner.actor t (more walk.walking) u (turn_view v.goal next)) at.kept.1 d);
    }

-- what holds at its end
pub record IsEndOf (owner : Owner) (way : Way) (s : State) (r : ℕ) (path : Reading) (t : State) (result : Result Resolved Errno) : Type 0 where
  pub means : ResolvesFor (is_deepest way.goal) (record { nodes = s.nodes; root = r; flags = way.flags }) path way.goal result
  pub owned : IsOwned owner result
  pub nodes : t.nodes ≡ s.nodes
  pub handles : LeavesHandles s owner.actor t result
  pub room : LeavesRoom s owner.actor t result

-- what it found is this owner's
pub owned_by : (owner : Owner) (way : Way) (result : Result Resolved Errno) → Keeps owner way (turn_of result) → IsOwned owner result
owned_by owner way (Ok (Found standing)) kept = kept
owned_by owner way (Ok (Partial standing rest)) kept = kept
owned_by owner way (Err error) kept = tt

pub ended_by : Laws → (owner : Owner) (way : Way) (s t : State) (r : ℕ) (path : Reading) → IsReady s owner.actor way.root r → steps_left_at (begins way path) ≤ STEPS_MAX
    → (outcome : Outcome) (result : Result Resolved Errno) → outcome ≡ turn_of result → IsDriven owner way s path t outcome → IsEndOf owner way s r path t result
ended_by laws owner way s t r path ready few outcome result e here =
    let at : IsDriven owner way s path t (turn_of result) = subst (λ o. IsDriven owner way s path t o) e here in
    record {
      means = resolved_by laws s t owner.actor r way path ready few result at.driven;
      owned = owned_by owner way result at.kept;
      nodes = at.driven.nodes;
      handles = handles_by laws s t owner.actor r way path ready few result at.driven;
      room = room_by laws s t owner.actor r way path ready few result at.driven;
    }
