-- A walk among others is led on by its lines, in one history with the others' steps.
use Rattle.std.proofs.Common.{◌≡◌, ◌≢◌, ℕ, ◌==◌, Bool, true, false, cond, inl, inr, List, [], ◌∷◌, ◌++◌, Some, Result, Ok, Err, IfOk, OnOk, OnErr, refl, sym, ap, ◌∙◌, subst, eqb-true}
use Rattle.std.specs.List.{All}
use Rattle.std.proofs.lemmas.Bool.{false_from_ne_true}
use Rattle.std.proofs.lemmas.List.Elements.{filter-append, All-nil, All-cons, All-head, All-tail}
use Rattle.path_text.specs.declared.errno.Errno.{Errno}
use Rattle.path_text.specs.declared.errno.Errno.TheVariants.{NoMemory}
use Rattle.path_text.specs.declared.errno.NoMemory.{NoMemory as Refusal}
use Rattle.path_text.specs.Reading.{Reading}
use Rattle.tree_model.specs.declared.answer.Answer.{Answer}
use Rattle.tree_model.specs.declared.answer.Event.{Event}
use Rattle.tree_model.specs.StepWith.{StepWith}
use Rattle.tree_model.specs.State.{State, is_dir}
use Rattle.tree_model.specs.Steps.{outcome, held}
use Rattle.tree_model.specs.Trees.{IsState}
use Rattle.handles.specs.declared.owner.Owner.{Owner}
use Rattle.tree_model.specs.History.{IsLegal, after_events}
use Rattle.tree_model.specs.HistoryLaws.{LegalHistoriesJoin}
use Rattle.step_resolver.specs.Order.{Way, Walking, Turn, more, found, partial, failed, begins, starts, due, walks, Line, answered, no_room, not_made, events_of, LeadsTo}
use Rattle.step_resolver.specs.Order.{take as takes}
use Rattle.step_resolver.specs.WalkHistory.{WalkInHistory, IsWalkInHistory, own_events}
use Rattle.step_resolver.specs.Headline.{EveryWalk}
use Rattle.step_resolver.specs.View.{WalkView}
use Rattle.step_resolver.specs.TurnView.{turn_view, Keeps, StartsTo, TakesTo}
use Rattle.step_resolver.specs.TurnsTell.{first_lines}
use Rattle.step_resolver.specs.declared.walk.Turn.{Turn as Outcome}
use Rattle.step_resolver.specs.declared.walk.Turn.TheVariants.{More}
use Rattle.step_resolver.specs.declared.driver.Resolved.{Resolved}
use Rattle.step_resolver.specs.declared.driver.Resolved.TheVariants.{Found, Partial}
use Rattle.walk_plan.specs.declared.goal.Goal.{Goal}
use Rattle.step_machine.specs.OnTree.{IsAnswer}
use Rattle.step_machine.proofs.Closes.{takes_memory}
use Rattle.step_resolver.specs.Driver.{IsOwned}
use Rattle.step_resolver.proofs.FirstTurns.{first_lines_lead}
use Rattle.step_machine.proofs.Runs.{leads_on}
use Rattle.step_resolver.proofs.TurnsTell.{line_leads}
use Rattle.step_resolver.proofs.DrivenWalks.{all_own, joined_events, turn_of, owned_by}
use Rattle.example_callers.specs.AmongOthers.{ByOthers, MayStep, IsLineOn, ActedBefore, TellsAmong, end_of}

-- A legal history from one tree to the other, and the lines that lead from one turn to the other, whose events are the actor's own;
-- before each of these lines the others acted.
pub record Led (O : Type 0) (acts : O → State → O → State → Type 0) (way : Way) (a : ℕ) (o : O) (s : State) (from : Turn) (p : O) (t : State) (to : Turn) : Type 0 where
  pub window : List Event
  pub lines : List Line
  pub legal : IsLegal s window
  pub after : after_events s window ≡ t
  pub own : own_events a window ≡ events_of a lines
  pub leads : LeadsTo way from lines to
  pub acted : ActedBefore O acts a o s lines p t

none_own : (a : ℕ) (events : List Event) → All (λ (event : Event). event.actor ≢ a) events → own_events a events ≡ []
none_own a [] others = refl
none_own a (event ∷ events) others =
    ap (λ b. cond b (event ∷ own_events a events) (own_events a events))
    (false_from_ne_true (event.actor == a) (λ q. All-head (λ (e : Event). e.actor ≢ a) event events others (eqb-true event.actor a q)))
    ∙ none_own a events (All-tail (λ (e : Event). e.actor ≢ a) event events others)

module _ (O : Type 0) (acts : O → State → O → State → Type 0) (way : Way) (a : ℕ) where
  acted_on : (o : O) (s : State) (lines : List Line) (p : O) (t : State) (others : List Line) (q : O) (u : State)
      → ActedBefore O acts a o s lines p t → ActedBefore O acts a p t others q u → ActedBefore O acts a o s (lines ++ others) q u
  acted_on o s [] p t others q u first second =
      subst (λ (x : O). ActedBefore O acts a x s others q u) first.0 (subst (λ (x : State). ActedBefore O acts a p x others q u) first.1 second)
  acted_on o s (line ∷ lines) p t others q u first second =
      (first.0, first.1, first.2, first.3, first.4, acted_on first.0 first.2 lines p t others q u first.5 second)

  led_nowhere : (o : O) (s : State) (turn : Turn) → Led O acts way a o s turn o s turn
  led_nowhere o s turn = record { window = []; lines = []; legal = tt; after = refl; own = refl; leads = refl; acted = (refl, refl) }

  led_on : LegalHistoriesJoin → (o : O) (s : State) (p : O) (t : State) (q : O) (u : State) (from mid to : Turn)
      → Led O acts way a o s from p t mid → Led O acts way a p t mid q u to → Led O acts way a o s from q u to
  led_on join o s p t q u from mid to first second =
      let both = join s first.window second.window in
      record {
        window = first.window ++ second.window;
        lines = first.lines ++ second.lines;
        legal = both.0.1 (first.legal, subst (λ v. IsLegal v second.window) (sym first.after) second.legal);
        after = both.1 ∙ ap (λ v. after_events v second.window) first.after ∙ second.after;
        own = filter-append (λ event. event.actor == a) first.window second.window
            ∙ ap (λ es. es ++ own_events a second.window) first.own ∙ ap (λ es. events_of a first.lines ++ es) second.own
            ∙ sym (joined_events a first.lines second.lines);
        leads = leads_on (walks way) first.lines from mid second.lines to first.leads second.leads;
        acted = acted_on o s first.lines p t second.lines q u first.acted second.acted;
      }

  -- the line of a step, with what it did
  pub record OneLine (walking : Walking) (s t : State) (to : Turn) : Type 0 where
    pub line : Line
    pub legal : IsLegal s (events_of a (line ∷ []))
    pub after : after_events s (events_of a (line ∷ [])) ≡ t
    pub leads : LeadsTo way (more walking) (line ∷ []) to
    pub on : IsLineOn a s line t

  one_made : (walking : Walking) (s t : State) (answer : Answer) (to : Turn) (room : Bool) → to ≡ takes way room walking answer
      → answer ≡ (outcome s a (due way walking)).answer → t ≡ (outcome s a (due way walking)).after → OneLine walking s t to
  one_made walking s t answer to true taken told after = record {
    line = answered (due way walking) answer;
    legal = (told, tt);
    after = sym after;
    leads = line_leads way true walking answer to (answered (due way walking) answer) taken (refl, refl, refl);
    on = (told, after);
  }
  one_made walking s t answer to false taken told after = record {
    line = no_room (due way walking) answer;
    legal = (told, tt);
    after = sym after;
    leads = line_leads way false walking answer to (no_room (due way walking) answer) taken (refl, refl, refl);
    on = (told, after);
  }

  one_line : (walking : Walking) (s t : State) (answer : Answer) (to : Turn) → IsAnswer (due way walking) a s t answer → TakesTo way walking answer to → OneLine walking s t to
  one_line walking s t answer to (inl is) taken = one_made walking s t answer to taken.0 taken.1 is.0 is.1
  one_line walking s t answer to (inr is) taken = record {
    line = not_made NoMemory;
    legal = tt;
    after = sym is.2;
    leads = line_leads way taken.0 walking answer to (not_made NoMemory) taken.1 ((inl refl, takes_memory (due way walking) is.0), is.1);
    on = (refl, is.2);
  }

  -- the others acted, and then one step was made, or there was no memory for it
  led_by_turn : LegalHistoriesJoin → (o : O) (s : State) (p : O) (u v : State) (walking : Walking) (answer : Answer) (to : Turn)
      → ByOthers a s u → acts o s p u → IsAnswer (due way walking) a u v answer → TakesTo way walking answer to → Led O acts way a o s (more walking) p v to
  led_by_turn join o s p u v walking answer to by acted is taken =
      let one = one_line walking u v answer to is taken in
      let own = events_of a (one.line ∷ []) in
      let both = join s by.events own in
      record {
        window = by.events ++ own;
        lines = one.line ∷ [];
        legal = both.0.1 (by.legal, subst (λ x. IsLegal x own) (sym by.after) one.legal);
        after = both.1 ∙ ap (λ x. after_events x own) by.after ∙ one.after;
        own = filter-append (λ event. event.actor == a) by.events own
            ∙ ap (λ es. es ++ own_events a own) (none_own a by.events by.others) ∙ all_own a (one.line ∷ []);
        leads = one.leads;
        acted = (p, u, v, acted, one.on, (refl, refl));
      }

-- ---- on the way

-- the lines of a first turn have no events
no_events : (a : ℕ) (room : Bool) (turn : Turn) → events_of a (first_lines room turn) ≡ []
no_events a true turn = refl
no_events a false (more walk) = refl
no_events a false (found handle names) = refl
no_events a false (partial handle names rest) = refl
no_events a false (failed error) = refl

-- a walk that was led here from its first turn, and is still this owner's and on this way
pub record IsLed (O : Type 0) (acts : O → State → O → State → Type 0) (owner : Owner) (way : Way) (o : O) (s : State) (path : Reading) (p : O) (t : State) (outcome : Outcome) : Type 0 where
  pub kept : Keeps owner way outcome
  pub room : Bool
  pub led : Led O acts way owner.actor o s (starts way room path) p t (turn_view way.goal outcome)

pub begun_led : (O : Type 0) (acts : O → State → O → State → Type 0) (way : Way) (owner : Owner) (o : O) (s : State) (path : Reading) (outcome : Outcome)
    → Keeps owner way outcome → StartsTo way path (turn_view way.goal outcome) → IsLed O acts owner way o s path o s outcome
begun_led O acts way owner o s path outcome kept begun = record {
  kept = kept;
  room = begun.0;
  led = subst (λ (t : Turn). Led O acts way owner.actor o s t o s (turn_view way.goal outcome)) begun.1 (led_nowhere O acts way owner.actor o s (turn_view way.goal outcome));
}

-- it goes on by what the others do, and then by one step more
pub led_further : LegalHistoriesJoin → (O : Type 0) (acts : O → State → O → State → Type 0) (owner : Owner) (way : Way) (o : O) (s : State) (p : O) (t : State) (q : O) (v u : State)
    (path : Reading) (outcome next : Outcome) (walk : WalkView) (answer : Answer)
    → outcome ≡ More walk → IsLed O acts owner way o s path p t outcome → ByOthers owner.actor t v → acts p t q v → Keeps walk.owner walk.way next
    → (step : StepWith ℕ) → step ≡ due walk.way walk.walking → IsAnswer step owner.actor v u answer → TakesTo walk.way walk.walking answer (turn_view walk.way.goal next) → IsLed O acts owner way o s path q u next
led_further join O acts owner way o s p t q v u path outcome next walk answer e here by acted keeps step is_due is taken =
    let at : IsLed O acts owner way o s path p t (More walk) = subst (λ z. IsLed O acts owner way o s path p t z) e here in
    let a = owner.actor in
    let end = turn_view way.goal next in
    let is_so : IsAnswer (due way walk.walking) a v u answer = subst (λ (w : Way). IsAnswer (due w walk.walking) a v u answer) at.kept.1
    (subst (λ x. IsAnswer x a v u answer) is_due is) in
    let taken_so : TakesTo way walk.walking answer end = subst (λ (w : Way). TakesTo w walk.walking answer (turn_view w.goal next)) at.kept.1 taken in
    record {
      kept = subst (λ (x : Owner). Keeps x way next) at.kept.0 (subst (λ (w : Way). Keeps walk.owner w next) at.kept.1 keeps);
      room = at.room;
      led = led_on O acts way a join o s p t q u (starts way at.room path) (more walk.walking) end at.led
          (led_by_turn O acts way a join p t q v u walk.walking answer end by acted is_so taken_so);
    }

-- ---- the end

pub told_among : EveryWalk → (O : Type 0) (acts : O → State → O → State → Type 0) (way : Way) (path : Reading) (a r : ℕ) (o : O) (s : State) (p : O) (t : State) (end : Turn) (room : Bool)
    → IsState s → held s a way.root ≡ Some r → is_dir s.nodes r ≡ true → Led O acts way a o s (starts way room path) p t end → TellsAmong O acts way path a o s p t end
told_among every O acts way path a r o s p t end room tree root directory led =
    let first = first_lines room (begins way path) in
    let lines = first ++ led.lines in
    let walked : WalkInHistory = record { opening = s; before = []; window = led.window; actor = a; way = way; root = r; path = path; lines = lines } in
    let own : own_events a led.window ≡ events_of a lines =
    led.own ∙ sym (joined_events a first led.lines ∙ ap (λ es. es ++ events_of a led.lines) (no_events a room (begins way path))) in
    let is_walked : IsWalkInHistory walked =
    record { tree = tree; legal_before = tt; legal = led.legal; own = own; root = root; root_is_dir = directory } in
    record {
      walked = walked;
      is_walked = is_walked;
      actor = refl;
      same_way = refl;
      same_path = refl;
      from = refl;
      to = led.after;
      acted = record { room = room; others = led.lines; are = refl; acted = led.acted };
      headline = every walked end is_walked (leads_on (walks way) first (begins way path) (starts way room path) led.lines end (first_lines_lead way room path) led.leads);
    }

-- what holds of a walk's end, as its result
pub record IsEndOf (O : Type 0) (acts : O → State → O → State → Type 0) (owner : Owner) (way : Way) (path : Reading) (o : O) (s : State) (p : O) (t : State) (result : Result Resolved Errno) : Type 0 where
  pub tells : TellsAmong O acts way path owner.actor o s p t (end_of way.goal result)
  pub owned : IsOwned owner result

seen_end : (goal : Goal) (result : Result Resolved Errno) → turn_view goal (turn_of result) ≡ end_of goal result
seen_end goal (Ok (Found standing)) = refl
seen_end goal (Ok (Partial standing rest)) = refl
seen_end goal (Err error) = refl

pub ended_by : EveryWalk → (O : Type 0) (acts : O → State → O → State → Type 0) (owner : Owner) (way : Way) (path : Reading) (r : ℕ) (o : O) (s : State) (p : O) (t : State)
    (outcome : Outcome) (result : Result Resolved Errno)
    → outcome ≡ turn_of result → IsState s → held s owner.actor way.root ≡ Some r → is_dir s.nodes r ≡ true → IsLed O acts owner way o s path p t outcome
    → IsEndOf O acts owner way path o s p t result
ended_by every O acts owner way path r o s p t outcome result e tree root directory here =
    let at : IsLed O acts owner way o s path p t (turn_of result) = subst (λ z. IsLed O acts owner way o s path p t z) e here in
    record {
      tells = told_among every O acts way path owner.actor r o s p t (end_of way.goal result) at.room tree root directory
          (subst (λ z. Led O acts way owner.actor o s (starts way at.room path) p t z) (seen_end way.goal result) at.led);
      owned = owned_by owner way result at.kept;
    }

-- ---- somebody else's step

-- one step, or none for want of memory
pub by_one_step : (walker a : ℕ) (s t : State) (step : StepWith ℕ) (result : Result Answer Refusal) → a ≢ walker
    → IfOk result (λ answer. answer ≡ (outcome s a step).answer) → OnOk result (t ≡ (outcome s a step).after) → OnErr result (t ≡ s) → ByOthers walker s t
by_one_step walker a s t step (Ok answer) ne told after left = record {
  events = record { actor = a; step = step; answer = answer } ∷ [];
  others = All-cons (λ (event : Event). event.actor ≢ walker) _ [] ne (All-nil _);
  legal = (told, tt);
  after = sym after;
}
by_one_step walker a s t step (Err error) ne told after left = record { events = []; others = All-nil _; legal = tt; after = sym left }

-- so it may step, and stays as it is
pub may_step : (walker a : ℕ) (s t : State) (step : StepWith ℕ) (result : Result Answer Refusal) → a ≢ walker
    → OnOk result (t ≡ (outcome s a step).after) → OnErr result (t ≡ s) → MayStep walker a step s t
may_step walker a s t step (Ok answer) ne after left = inr (ne, after)
may_step walker a s t step (Err error) ne after left = inl left
