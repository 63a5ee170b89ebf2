-- What the end of a call tells: of its walk by the headline, and then by induction on what the call was told.
use Rattle.std.specs.Prelude.{◌≡◌, ℕ, suc, ◌≤◌, ◌⊎◌, List, [], ◌∷◌, ◌++◌, Bool, true, false, if◌then◌else◌, length, reverse, Option, Some, None, refl}
use Rattle.std.proofs.Common.{sym, ap, subst, ◌∙◌, ⊎_elim, le_refl, append-nil, inl, inr, arith}
use Rattle.std.proofs.lemmas.Bool.{false≢true}
use Rattle.path_text.specs.declared.errno.Errno.{Errno}
use Rattle.path_text.specs.declared.errno.Errno.TheVariants.{NoMemory, BookFull, NotDir}
use Rattle.tree_model.specs.declared.answer.Answer.{Answer}
use Rattle.tree_model.specs.declared.answer.Answer.TheVariants.{Refused}
use Rattle.tree_model.specs.declared.inode.Object.{Object}
use Rattle.tree_model.specs.declared.inode.Object.TheVariants.{Dir, File, Link}
use Rattle.tree_model.specs.State.{State, object_at, is_directory}
use Rattle.tree_model.specs.Steps.{kind_of}
use Rattle.tree_model.specs.Steps.{held as holding}
use Rattle.step_machine.specs.Machine.{HasEnded}
use Rattle.step_machine.proofs.Split.{ended_at, runs_split}
use Rattle.step_resolver.specs.Order.{Handle, IsWant, is_close, is_dir_kind, Line, answered, no_room, not_made}
use Rattle.step_resolver.specs.Order as walk
use Rattle.step_resolver.specs.WalkHistory.{WalkInHistory, IsWalkInHistory, end_of, state_at, timeline}
use Rattle.step_resolver.specs.Failures.{TellsWant}
use Rattle.step_resolver.specs.Headline.{IsNewHandle, OpensDeepest}
use Rattle.step_resolver.proofs.TurnsTell.{is_machine}
use Rattle.step_resolver.proofs.Underway.WalkInvariant.{Lived, StepAt, held_at, HandlesAre, IsHeld}
use Rattle.step_resolver.proofs.Underway.LegalHistory.{lived, IsAlone, Rests, HappensAlone, before_or_from}
use Rattle.step_resolver.proofs.Underway.OwnSteps.{own_events_leave_nodes}
use Rattle.step_resolver.proofs.Ends.EveryWalk.{tree_laws, walks_tell}
use Rattle.bulk_ops.specs.MakeAllOrder.{Making, walking, making, opening, leaving, ending, closing, MakeTurn, more, made, failed, begins, rest_fault, rest_names, gives_up, begins_to_make, after_walk, take, due, under_way, calls, LeadsTo}
use Rattle.bulk_ops.specs.MakeAllTells.{stays, DeepestAt, start_of, Reach, not_begun, begun, MayDo, Did, of_walk, no_directory, of_rest, for_want, MadeLast, MakeTells, MakesTell}
use Rattle.bulk_ops.specs.WalkFirst.{walk_part}
use Rattle.bulk_ops.proofs.WalkParts.{walked_to, state_then, happens_on, leaves_so}
use Rattle.bulk_ops.proofs.Within.{walk_of_making, short_told, want_first, want_behind}
use Rattle.bulk_ops.proofs.MakeAllGood.{DidUntil, OnWay, Failing, LastAt, GoodCall, GoodTurn, goes_down_good}
use Rattle.bulk_ops.proofs.MakeAllAnswers.{making_good, opening_good, leaving_good, closing_good, ending_good}

kind_of_dir : (what : Object) → is_directory (Some what) ≡ true → is_dir_kind (kind_of what) ≡ true
kind_of_dir Dir e = refl
kind_of_dir File e = e
kind_of_dir (Link text) e = e

-- once the walk came to the deepest directory
module _ {w : WalkInHistory} (is : IsWalkInHistory w) (lived_ : Lived w) (p : DeepestAt w) where
  abbrev at_its_end : ℕ
  at_its_end = length p.walked.window

  abbrev walks : OpensDeepest (walk_part w p.walked.window p.walked.lines) p.handle p.names p.rest
  walks = p.walked.headline.tells

  then_there : state_at w at_its_end ≡ end_of (walk_part w p.walked.window p.walked.lines)
  then_there = state_then w is _ p.walked

  kept_there : (k : ℕ) → held_at w at_its_end k ≡ holding (end_of (walk_part w p.walked.window p.walked.lines)) w.actor k
  kept_there k = ap (λ (s : State). holding s w.actor k) then_there

  handles_there : HandlesAre w at_its_end (p.handle.number ∷ [])
  handles_there = record { others = λ k out. kept_there k ∙ walks.new.others k out.0; fresh = (walks.new.fresh, tt) }

  what_there : (timeline w).object_of p.handle.node ≡ Some walks.new.what
  what_there = lived_.objects at_its_end p.handle.node walks.new.what (ap (λ (s : State). object_at s.nodes p.handle.node) then_there ∙ walks.new.is_what)

  held_there : IsHeld w at_its_end p.handle
  held_there = record { is_open = kept_there p.handle.number ∙ walks.new.is_open; what = walks.new.what; is_what = what_there; kind = walks.new.kind }

  dir_then : is_directory (Some walks.new.what) ≡ true
  dir_then =
      sym (ap is_directory walks.new.is_what)
      ∙ ap (λ x. is_directory ((timeline (walk_part w p.walked.window p.walked.lines)).object_of x)) (sym walks.node) ∙ walks.missing.dir

  did_there : DidUntil w not_begun at_its_end
  did_there t own less = leaves_so w is _ p.walked t less own

  -- the rest is looked through, and the first name is due
  pub begun_good : (room : Bool) → (room ≡ false → TellsWant NoMemory w.lines) → (fault : Option Errno) → rest_fault p.rest ≡ fault
      → GoodTurn w at_its_end (begins_to_make room p.handle p.names p.rest fault)
  begun_good room short (Some fault) e = record { reach = not_begun; did = did_there; cause = of_rest p e; handles = handles_there }
  begun_good true short None e = goes_down_good p.handle p.names (rest_names p.rest) (record {
    p = p;
    chained = record {
      whole = e;
      passed = [];
      split = refl;
      to = start_of p;
      down = stays;
      node = refl;
      at_names = refl;
      names_are = refl;
      past = le_refl at_its_end;
      dir = ap is_directory what_there ∙ dir_then;
      kind = ap is_dir_kind (sym walks.new.kind) ∙ kind_of_dir walks.new.what dir_then;
      is_held = held_there;
    };
    handles = handles_there;
    did = λ t own less. inl (did_there t own less);
  })
  begun_good false short None e = record {
    reach = begun p;
    did = λ t own less. inl (did_there t own less);
    cause = (e, for_want (inl refl) (short refl));
    handles = handles_there;
  }

module _ {w : WalkInHistory} (lived_ : Lived w) where
  -- ---- each answer

  call_good : (room : Bool) (now t : ℕ) (call : Making) → GoodCall w now call → (answer : Answer) → StepAt w now t (due w.way call) answer → IsAlone w now t
      → GoodTurn w (suc t) (take w.way room call answer)
  call_good room now t (walking walker) good answer is alone = absurd good
  call_good room now t (making held names n left) good answer is alone = making_good lived_ now t held names n left good answer alone room is
  call_good room now t (opening held names n left) good answer is alone = opening_good lived_ now t held names n left good.way answer alone room is good.shown
  call_good room now t (leaving old new names left) good answer is alone = leaving_good tree_laws lived_ now t answer alone room old new names left good is
  call_good room now t (ending held names) good answer is alone = ending_good tree_laws lived_ now t answer alone room held names good is
  call_good room now t (closing h hs error) good answer is alone = closing_good tree_laws lived_ now t answer alone room h hs error good is

  -- ---- steps that weren't made

  want_fails : (now : ℕ) (error : Errno) (held : Handle) (names left : List (List ℕ)) → IsWant error → TellsWant error w.lines
      → OnWay w now held names left (held.number ∷ []) → Failing w now error (held.number ∷ [])
  want_fails now error held names left is told way = record {
    reach = begun way.p;
    did = way.did;
    cause = (way.chained.whole, for_want is told);
    handles = way.handles;
  }

  unmade_memory : (now : ℕ) → TellsWant NoMemory w.lines → (call : Making) → is_close (due w.way call) ≡ false → GoodCall w now call → GoodTurn w now (take w.way true call (Refused NoMemory))
  unmade_memory now told (walking walker) e good = absurd good
  unmade_memory now told (making held names n left) e good = want_fails now NoMemory held names (n ∷ left) (inl refl) told good
  unmade_memory now told (opening held names n left) e good = want_fails now NoMemory held names (n ∷ left) (inl refl) told good.way
  unmade_memory now told (leaving old new names left) e good = cc (e)
  unmade_memory now told (ending held names) e good = want_fails now NoMemory held names [] (inl refl) told good
  unmade_memory now told (closing h hs error) e good = cc (e)

  unmade_book : (now : ℕ) → TellsWant BookFull w.lines → (call : Making) → is_close (due w.way call) ≡ false → GoodCall w now call → GoodTurn w now (take w.way true call (Refused BookFull))
  unmade_book now told (walking walker) e good = absurd good
  unmade_book now told (making held names n left) e good = want_fails now BookFull held names (n ∷ left) (inr refl) told good
  unmade_book now told (opening held names n left) e good = want_fails now BookFull held names (n ∷ left) (inr refl) told good.way
  unmade_book now told (leaving old new names left) e good = cc (e)
  unmade_book now told (ending held names) e good = want_fails now BookFull held names [] (inr refl) told good
  unmade_book now told (closing h hs error) e good = cc (e)

  unmade_good : (now : ℕ) (error : Errno) → IsWant error → TellsWant error w.lines → (call : Making) → is_close (due w.way call) ≡ false → GoodCall w now call
      → GoodTurn w now (take w.way true call (Refused error))
  unmade_good now error (inl e) told call open_step good =
      subst (λ x. GoodTurn w now (take w.way true call (Refused x))) (sym e) (unmade_memory now (subst (λ x. TellsWant x w.lines) e told) call open_step good)
  unmade_good now error (inr e) told call open_step good =
      subst (λ x. GoodTurn w now (take w.way true call (Refused x))) (sym e) (unmade_book now (subst (λ x. TellsWant x w.lines) e told) call open_step good)

  -- ---- the end

  module _ (now : ℕ) (kept : (h : ℕ) → holding (end_of w) w.actor h ≡ held_at w now h) (nothing : (j : ℕ) → now ≤ j → (timeline w).is_own j ≡ false) where
    did_all : (reach : Reach w) → DidUntil w reach now → Did w reach
    did_all reach did t own = on (before_or_from t now)
      where
        on : (suc t ≤ now) ⊎ (now ≤ t) → MayDo w reach t
        on (inl before) = did t own (omega (arith, before))
        on (inr after) = absurd (false≢true (sym (nothing t after) ∙ own))

    new_handle : (handle : Handle) → IsHeld w now handle → HandlesAre w now (handle.number ∷ []) → IsNewHandle w handle
    new_handle handle is are = record {
      is_open = kept handle.number ∙ is.is_open;
      fresh = are.fresh.0;
      others = λ h ne. kept h ∙ are.others h (ne, tt);
      what = is.what;
      is_what = is.is_what;
      kind = is.kind;
    }

    made_ends : (handle : Handle) (names : List (List ℕ)) (p : DeepestAt w) → LastAt w now p handle names → HandlesAre w now (handle.number ∷ []) → MadeLast w p handle names
    made_ends handle names p last are = record {
      whole = last.chained.whole;
      passed = last.chained.passed;
      all = last.chained.split ∙ append-nil (reverse last.chained.passed);
      to = last.chained.to;
      down = last.chained.down;
      node = last.chained.node;
      at_names = last.chained.names_are;
      same_names = last.chained.at_names;
      when = last.when;
      stood = last.stood;
      last = λ t own. on t own (before_or_from t now);
      dir = last.chained.kind;
      new = new_handle handle last.chained.is_held are;
    }
      where
        on : (t : ℕ) → (timeline w).is_own t ≡ true → (suc t ≤ now) ⊎ (now ≤ t) → t ≤ last.when
        on t own (inl before) = omega (arith, before, last.is_now)
        on t own (inr after) = absurd (false≢true (sym (nothing t after) ∙ own))

    end_tells : (turn : MakeTurn) → GoodTurn w now turn → MakeTells w turn
    end_tells (more call) good = tt
    end_tells (made handle names) good =
        record { reach = begun good.p; did = did_all (begun good.p) good.did; ends = made_ends handle names good.p good.last good.handles }
    end_tells (failed error) good = record { reach = good.reach; did = did_all good.reach good.did; cause = good.cause; handles = λ h. kept h ∙ good.handles.others h tt }

  pub lines_tell : (lines : List Line) (now : ℕ) (turn end : MakeTurn) → GoodTurn w now turn → HappensAlone w now lines → LeadsTo w.way turn lines end
      → ((error : Errno) → TellsWant error lines → TellsWant error w.lines) → MakeTells w end
  lines_tell [] now turn end good happens leads wants =
      let rests : Rests w now = happens in
      subst (MakeTells w) leads (end_tells now rests.kept rests.alone turn good)
  lines_tell (answered step answer ∷ lines) now (more call) end good happens leads wants =
      lines_tell lines (suc happens.0) (take w.way true call answer) end
      (call_good true now happens.0 call good answer (subst (λ s. StepAt w now happens.0 s answer) leads.0 happens.1.0.made) happens.1.0.alone)
      happens.1.1 leads.1 (λ error want. wants error (inr want))
  lines_tell (no_room step answer ∷ lines) now (more call) end good happens leads wants =
      lines_tell lines (suc happens.0) (take w.way false call answer) end
      (call_good false now happens.0 call good answer (subst (λ s. StepAt w now happens.0 s answer) leads.0 happens.1.0.made) happens.1.0.alone)
      happens.1.1 leads.1 (λ error want. wants error (inr want))
  lines_tell (not_made error ∷ lines) now (more call) end good happens leads wants =
      lines_tell lines now (take w.way true call (Refused error)) end (unmade_good now error leads.0.0 (wants error (inl refl)) call leads.0.1 good)
      happens leads.1 (λ cause want. wants cause (inr want))
  lines_tell (line ∷ lines) now (made handle names) end good happens leads wants = absurd leads
  lines_tell (line ∷ lines) now (failed error) end good happens leads wants = absurd leads

-- ---- by the walk's end

module _ (w : WalkInHistory) (is : IsWalkInHistory w) (end : MakeTurn) (first rest : List Line) (all : w.lines ≡ first ++ rest) where
  lived_too : Lived w
  lived_too = lived tree_laws w is

  behind : (error : Errno) → TellsWant error rest → TellsWant error w.lines
  behind error want = subst (TellsWant error) (sym all) (want_behind error first rest want)

  -- the lines are the walk's alone
  whole_walk : (at : walk.Turn) → walk.LeadsTo w.way (walk.begins w.way w.path) first at → rest ≡ [] → walk.LeadsTo w.way (walk.begins w.way w.path) w.lines at
  whole_walk at led none =
      subst (λ (ls : List Line). walk.LeadsTo w.way (walk.begins w.way w.path) ls at) (sym (all ∙ ap (λ (ls : List Line). first ++ ls) none ∙ append-nil first)) led

  leaves_all : (at : walk.Turn) → walk.LeadsTo w.way (walk.begins w.way w.path) w.lines at → Did w not_begun
  leaves_all at leads = own_events_leave_nodes w at is leads

  failed_tells : (error : Errno) → walk.LeadsTo w.way (walk.begins w.way w.path) w.lines (walk.failed error) → MakeTells w (failed error)
  failed_tells error leads =
      let tells = walks_tell w (walk.failed error) is leads in
      record {
        reach = not_begun;
        did = leaves_all (walk.failed error) leads;
        cause = of_walk (record { walked = leads; true_once = tells.true_once; leaves = leaves_all (walk.failed error) leads });
        handles = tells.handles;
      }

  found_tells : (handle : Handle) (names : List (List ℕ)) → walk.LeadsTo w.way (walk.begins w.way w.path) first (walk.found handle names)
      → (dir : Bool) → is_dir_kind handle.kind ≡ dir → LeadsTo w.way (if dir then made handle names else gives_up (handle.number ∷ []) NotDir) rest end → MakeTells w end
  found_tells handle names led true e onward =
      let last = ended_at (calls w.way) (made handle names) rest end tt onward in
      let leads = whole_walk (walk.found handle names) led last.1 in
      subst (MakeTells w) last.0 (record {
        reach = not_begun;
        did = leaves_all (walk.found handle names) leads;
        ends = record { found = record { walked = leads; opens = walks_tell w (walk.found handle names) is leads }; dir = e };
      })
  found_tells handle names led false e onward =
      let walks = walked_to w is first rest all (walk.found handle names) led in
      let there = state_then w is (walk.found handle names) walks in
      let new = walks.headline.tells.new in
      lines_tell lived_too rest (length walks.window) (gives_up (handle.number ∷ []) NotDir) end
      (record {
        reach = not_begun;
        did = λ t own less. leaves_so w is (walk.found handle names) walks t less own;
        cause = no_directory handle names walks e;
        handles = record { others = λ k out. ap (λ (s : State). holding s w.actor k) there ∙ new.others k out.0; fresh = (new.fresh, tt) };
      })
      (happens_on w is (walk.found handle names) walks) onward behind

  by_walk : (at : walk.Turn) → HasEnded (walk.under_way at) → walk.LeadsTo w.way (walk.begins w.way w.path) first at → (room : Bool) → (room ≡ false → TellsWant NoMemory first)
      → LeadsTo w.way (after_walk room at) rest end → MakeTells w end
  by_walk (walk.more walker) over led room short onward = absurd over
  by_walk (walk.found handle names) over led room short onward = found_tells handle names led (is_dir_kind handle.kind) refl onward
  by_walk (walk.partial handle names parts) over led room short onward =
      let walks = walked_to w is first rest all (walk.partial handle names parts) led in
      lines_tell lived_too rest (length walks.window) (begins_to_make room handle names parts (rest_fault parts)) end
      (begun_good is lived_too (record { handle = handle; names = names; rest = parts; walked = walks }) room
      (λ e. subst (TellsWant NoMemory) (sym all) (want_first NoMemory first rest (short e))) (rest_fault parts) refl)
      (happens_on w is (walk.partial handle names parts) walks) onward behind
  by_walk (walk.failed error) over led room short onward =
      let last = ended_at (calls w.way) (failed error) rest end tt onward in
      subst (MakeTells w) last.0 (failed_tells error (whole_walk (walk.failed error) led last.1))

ended_tells : (w : WalkInHistory) (end : MakeTurn) → HasEnded (under_way end) → IsWalkInHistory w → LeadsTo w.way (begins w.way w.path) w.lines end → MakeTells w end
ended_tells w end over is leads =
    let split = runs_split (walk.walks w.way) (calls w.way) after_walk walking (is_machine w.way) (walk_of_making w.way) true (walk.begins w.way w.path) w.lines end over leads in
    by_walk w is end split.first split.rest split.joined split.at split.over split.led split.room_there
    (λ e. ⊎_elim (λ (other : true ≡ false). cc (other)) (λ ran. short_told split.first ran) (split.short e)) split.onward

pub makes_tell : MakesTell
makes_tell w (more call) is leads = tt
makes_tell w (made handle names) is leads = ended_tells w (made handle names) tt is leads
makes_tell w (failed error) is leads = ended_tells w (failed error) tt is leads
