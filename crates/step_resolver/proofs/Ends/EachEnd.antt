-- What the end of a walk tells, by induction on what the walk was told.
use Rattle.std.specs.Prelude.{◌≡◌, ℕ, suc, List, [], ◌∷◌, Bool, true, false, if◌then◌else◌, None, refl}
use Rattle.std.proofs.Common.{sym, ap, subst, ◌∙◌, append-nil, inl, inr}
use Rattle.std.proofs.lemmas.Bool.{and_parts}
use Rattle.path_text.specs.declared.errno.Errno.{Errno}
use Rattle.path_text.specs.declared.errno.Errno.TheVariants.{NoMemory, CrossRoot, TooMany}
use Rattle.tree_model.specs.declared.answer.Answer.{Answer}
use Rattle.tree_model.specs.declared.answer.Answer.TheVariants.{Refused}
use Rattle.tree_model.specs.StepWith.{StepWith}
use Rattle.tree_model.specs.Steps.{held}
use Rattle.walk_plan.specs.Plan.{leads_out}
use Rattle.step_resolver.specs.Asked.{AskedPart}
use Rattle.step_resolver.specs.Meaning.{LINKS_MAX}
use Rattle.step_resolver.specs.Trail.{Trail}
use Rattle.step_resolver.specs.Order.{Handle, root_itself, holds, todo, Walking, opening, reading, rising, judging, duping, ending, closing, Turn, more, found, partial, failed, begins, goes_on, take, due, IsWant, Line, answered, no_room, not_made, LeadsTo}
use Rattle.step_resolver.specs.WalkHistory.{WalkInHistory, end_of, timeline, parts_of_walk, start}
use Rattle.step_resolver.specs.Failures.{TellsError, TellsWant, MetRefusal}
use Rattle.step_resolver.specs.Headline.{IsNewHandle, Opens, OpensDeepest, Tells}
use Rattle.step_resolver.proofs.Underway.WalkInvariant.{Lived, StepAt, Happens, held_at, HandlesAre, IsHeld, spot_at, Going, no_stop, trail_at, EndsAt, at_all, at_missing, GoodWalk, FoundAt, Good}
use Rattle.step_resolver.proofs.Underway.NextPart.{goes_on_good}
use Rattle.step_resolver.proofs.Underway.AfterOpen.{opening_good}
use Rattle.step_resolver.proofs.Underway.AfterReadLink.{reading_good}
use Rattle.step_resolver.proofs.Underway.AfterParent.{rising_good, judging_good}
use Rattle.step_resolver.proofs.Underway.AfterDupAndClose.{duping_good, ending_good, closing_good, not_made_good}

module _ {w : WalkInHistory} (lived : Lived w) where
  -- what any answer makes of a walk
  pub take_good : (room : Bool) → (room ≡ false → TellsError w NoMemory) → (now t : ℕ) (walk : Walking) → GoodWalk w now walk → (answer : Answer)
      → StepAt w now t (due w.way walk) answer → (answer ≡ Refused TooMany → MetRefusal (due w.way walk) w.lines) → Good w (suc t) (take w.way room walk answer)
  take_good room want now t (opening position own follow n (todo inner rest b)) good answer is met =
      opening_good lived now t room want position own follow n inner rest b good answer is met
  take_good room want now t (reading position link (todo inner rest b)) good answer is met = reading_good lived now t room want position link inner rest b good answer is
  take_good room want now t (rising old names (todo inner rest b)) good answer is met = rising_good lived now t room old names inner rest b good answer is met
  take_good room want now t (judging new names (todo inner rest b)) good answer is met = judging_good lived now t room new names inner rest b good.0 good.1 answer is
  take_good room want now t (duping rest) good answer is met = duping_good lived now t room rest good answer is met
  take_good room want now t (ending handle names rest) good answer is met = ending_good lived now t room handle names rest good answer is
  take_good room want now t (closing h hs after) good answer is met = closing_good lived now t room h hs after good answer is

  new_handle : {now : ℕ} {handle : Handle} → ((h : ℕ) → held (end_of w) w.actor h ≡ held_at w now h) → IsHeld w now handle → HandlesAre w now (handle.number ∷ [])
      → IsNewHandle w handle
  new_handle {handle = handle} kept is are = record {
    is_open = kept handle.number ∙ is.is_open;
    fresh = are.fresh.0;
    others = λ h ne. kept h ∙ are.others h (ne, tt);
    what = is.what;
    is_what = is.is_what;
    kind = is.kind;
  }

  found_tells : {now : ℕ} {handle : Handle} {names : List (List ℕ)} → ((h : ℕ) → held (end_of w) w.actor h ≡ held_at w now h) → FoundAt w now handle names []
      → Opens w handle names
  found_tells {handle = handle} {names = names} kept f = record {
    to = spot_at w (holds handle names) f.links f.m;
    trail = subst (λ ps. Trail (timeline w) ps (start w) (spot_at w (holds handle names) f.links f.m) None) (sym (f.going.parts ∙ append-nil f.going.taken)) (trail_at f.going);
    node = refl;
    passed = refl;
    when = f.when;
    stood = f.stood;
    new = new_handle kept f.held f.handles;
  }

  partial_tells : {now : ℕ} {handle : Handle} {names : List (List ℕ)} {rest : List AskedPart} → ((h : ℕ) → held (end_of w) w.actor h ≡ held_at w now h)
      → (f : FoundAt w now handle names rest) → (rest ≡ [] → ⊥) → EndsAt w f.when (spot_at w (holds handle names) f.links f.m) rest → OpensDeepest w handle names rest
  partial_tells kept f some (at_all e) = absurd (some e)
  partial_tells {handle = handle} {names = names} kept f some (at_missing deep follow n others e not_long first missing past) = record {
    goal = deep;
    front = f.going.taken;
    parts = f.going.parts;
    to = spot_at w (holds handle names) f.links f.m;
    trail = trail_at f.going;
    node = refl;
    passed = refl;
    follow = follow;
    name = n;
    others = others;
    begins_with = e;
    short = not_long;
    first = first;
    missing = missing;
    when = f.when;
    stood = f.stood;
    after = past;
    new = new_handle kept f.held f.handles;
  }

  -- what is known where the actor does nothing more
  end_tells : (now : ℕ) (turn : Turn) → ((h : ℕ) → held (end_of w) w.actor h ≡ held_at w now h) → Good w now turn → Tells w turn
  end_tells now (more walk) kept good = tt
  end_tells now (found handle names) kept good = found_tells kept good
  end_tells now (partial handle names rest) kept good = partial_tells kept good.0 good.1 good.0.ends
  end_tells now (failed error) kept good = record { true_once = good.0; handles = λ h. kept h ∙ good.1.others h tt }

  lines_tell : (lines : List Line) (now : ℕ) (turn end : Turn) → Good w now turn → Happens w now lines → LeadsTo w.way turn lines end
      → ((error : Errno) → IsWant error → TellsWant error lines → TellsError w error)
      → ((step : StepWith ℕ) → MetRefusal step lines → MetRefusal step w.lines) → Tells w end
  lines_tell [] now turn end good happens leads wants mets = subst (Tells w) leads (end_tells now turn happens good)
  lines_tell (answered step answer ∷ lines) now (more walk) end good happens leads wants mets =
      lines_tell lines (suc happens.0) (take w.way true walk answer) end
      (take_good true (λ e. cc (e)) now happens.0 walk good answer (subst (λ s. StepAt w now happens.0 s answer) leads.0 happens.1.0)
      (λ e. mets (due w.way walk) (inl (leads.0, e))))
      happens.1.1 leads.1 (λ error is want. wants error is (inr want)) (λ s m. mets s (inr m))
  lines_tell (no_room step answer ∷ lines) now (more walk) end good happens leads wants mets =
      lines_tell lines (suc happens.0) (take w.way false walk answer) end
      (take_good false (λ e. wants NoMemory (inl refl) (inl refl)) now happens.0 walk good answer (subst (λ s. StepAt w now happens.0 s answer) leads.0 happens.1.0)
      (λ e. mets (due w.way walk) (inl (leads.0, e))))
      happens.1.1 leads.1 (λ error is want. wants error is (inr want)) (λ s m. mets s (inr m))
  lines_tell (not_made error ∷ lines) now (more walk) end good happens leads wants mets =
      lines_tell lines now (take w.way true walk _) end
      (not_made_good lived now error leads.0.0 (wants error leads.0.0 (inl refl)) walk leads.0.1 good)
      happens leads.1 (λ cause is want. wants cause is (inr want)) (λ s m. mets s (inr m))
  lines_tell (line ∷ lines) now (found handle names) end good happens leads wants mets = absurd leads
  lines_tell (line ∷ lines) now (partial handle names rest) end good happens leads wants mets = absurd leads
  lines_tell (line ∷ lines) now (failed error) end good happens leads wants mets = absurd leads

  pub handles_at_first : HandlesAre w 0 []
  handles_at_first = record { others = λ k out. refl; fresh = tt }

  pub going_first : Going w 0 root_itself [] (parts_of_walk w) LINKS_MAX
  going_first = record { taken = []; parts = refl; reaches = λ z next t. t; within = λ z p t. absurd (no_stop t) }

  -- a walk that fails at once has no lines
  no_lines : (lines : List Line) (end : Turn) → LeadsTo w.way (begins w.way w.path) lines end → begins w.way w.path ≡ failed CrossRoot → lines ≡ []
  no_lines [] end leads e = refl
  no_lines (line ∷ lines) end leads e = absurd (subst (λ turn. LeadsTo w.way turn (line ∷ lines) end) e leads)

  begins_good : (begins w.way w.path ≡ failed CrossRoot → w.lines ≡ []) → Good w 0 (begins w.way w.path)
  begins_good none = on (leads_out w.path.absolute w.way.flags) refl
    where
      after : Bool → Turn
      after b = if b then failed CrossRoot else goes_on w.way root_itself (todo [] (parts_of_walk w) LINKS_MAX)

      on : (b : Bool) → leads_out w.path.absolute w.way.flags ≡ b → Good w 0 (begins w.way w.path)
      on true e = subst (Good w 0) (sym (ap after e))
          (record { beneath = (and_parts w.way.flags.beneath w.path.absolute e).0; why = inl ((and_parts w.way.flags.beneath w.path.absolute e).1, none (ap after e)) }, handles_at_first)
      on false e = subst (Good w 0) (sym (ap after e)) (goes_on_good lived 0 root_itself [] (parts_of_walk w) LINKS_MAX going_first tt handles_at_first)

  pub wants_told : (error : Errno) → IsWant error → TellsWant error w.lines → TellsError w error
  wants_told error (inl e) want = subst (TellsError w) (sym e) (subst (λ x. TellsWant x w.lines) e want)
  wants_told error (inr e) want = subst (TellsError w) (sym e) (subst (λ x. TellsWant x w.lines) e want)

  -- what the end of a walk tells, where its lines happen in the window
  pub walk_tells : (end : Turn) → Happens w 0 w.lines → LeadsTo w.way (begins w.way w.path) w.lines end → Tells w end
  walk_tells end happens leads = lines_tell w.lines 0 (begins w.way w.path) end (begins_good (no_lines w.lines end leads)) happens leads wants_told (λ step m. m)
