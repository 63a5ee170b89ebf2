-- What the answers at the end make of a walk, and those to closings; and what it makes of steps that weren't made.
use Rattle.std.specs.Prelude.{◌≡◌, ℕ, suc, ◌≤◌, List, [], ◌∷◌, ◌++◌, Bool, true, false, Option, Some, None, refl}
use Rattle.std.proofs.Common.{sym, ap, subst, ◌∙◌, le_trans, append-nil, inl, inr}
use Rattle.std.proofs.Math.Nat.{le-suc}
use Rattle.std.proofs.lemmas.Option.{none-some}
use Rattle.path_text.specs.declared.errno.Errno.{Errno}
use Rattle.path_text.specs.declared.errno.Errno.TheVariants.{Raced, NoMemory, TooMany, BookFull}
use Rattle.tree_model.specs.declared.answer.Answer.{Answer}
use Rattle.tree_model.specs.declared.answer.Answer.TheVariants.{Refused}
use Rattle.tree_model.specs.declared.step.StepOf.TheVariants.{Dup, NameBelow, Close}
use Rattle.tree_model.specs.State.{Stands}
use Rattle.tree_model.specs.Steps.{opens}
use Rattle.step_resolver.specs.Asked.{AskedPart}
use Rattle.step_resolver.specs.Trail.{Spot, Trail}
use Rattle.step_resolver.specs.Order.{Handle, root_itself, holds, todo, After, gives, onward, judges, Walking, opening, reading, rising, judging, duping, ending, closing, handles_of, take, due, is_close, IsWant}
use Rattle.step_resolver.specs.Order.{end_of as ends_with}
use Rattle.step_resolver.specs.Renamed.{walk_after_handles}
use Rattle.step_resolver.specs.WalkHistory.{WalkInHistory, state_at, timeline, start}
use Rattle.step_resolver.specs.Failures.{TellsError, MetRefusal}
use Rattle.step_resolver.proofs.Trail.Joined.{own_earlier}
use Rattle.step_resolver.proofs.Underway.StepOutcomes.{IsLess, Close-is_less, Opening, too_many, no_object, is_opened, opening_of, dup_is}
use Rattle.step_resolver.proofs.Underway.WalkInvariant.{Lived, StepAt, held_at, IsNotIn, handles_kept, handles_more, handles_less, root_open, held_kept, held_less, held_node, spot_at, going_later, trail_at, GoodEnd, EndsAt, at_all, at_missing, GoodAfter, GoodClosing, GoodWalk, FoundAt, Good}
use Rattle.step_resolver.proofs.Underway.HandleCount.{few_held, refusal_told}
use Rattle.step_resolver.proofs.Underway.NextPart.{gave_up, closes_good}
use Rattle.step_resolver.proofs.Underway.HandlesHeld.{kept_on, more_on, position_kept, position_less}
use Rattle.step_resolver.proofs.Underway.AfterParent.{judged_good}

pub ends_later : {w : WalkInHistory} {m k : ℕ} {to : Spot} {rest : List AskedPart} → m ≤ k → EndsAt w m to rest → EndsAt w k to rest
ends_later le (at_all e) = at_all e
ends_later le (at_missing deep follow n others e short first missing past) = at_missing deep follow n others e short first missing (le_trans past le)

module _ {w : WalkInHistory} (lived : Lived w) (now t : ℕ) (room : Bool) (rest : List AskedPart) (good : GoodEnd w now root_itself rest) (answer : Answer)
    (is : StepAt w now t (Dup w.way.root) answer) (met : answer ≡ Refused TooMany → MetRefusal (Dup w.way.root) w.lines) where
  root_is : held_at w t w.way.root ≡ Some w.root
  root_is = is.kept w.way.root ∙ root_open lived good.handles

  on_opening : Opening (state_at w t) w.actor w.root (opens (state_at w t) w.actor w.root) → Good w (suc t) (take w.way room (duping rest) answer)
  on_opening (too_many f q) =
      let o = dup_is (state_at w t) w.actor w.way.root w.root root_is ∙ q in
      subst (λ v. Good w (suc t) (take w.way room (duping rest) v)) (sym (is.told ∙ ap (λ r. r.answer) o))
      (refusal_told is (met (is.told ∙ ap (λ r. r.answer) o)) (ap (λ r. r.answer) o) f (few_held w t root_itself (handles_kept is.kept good.handles)), handles_kept (kept_on is (ap (λ r. r.after) o)) good.handles)
  on_opening (no_object z q) =
      let o = held_node (state_at w t) w.actor w.way.root w.root (lived.states t) root_is in
      absurd (none-some o.0 (sym z ∙ o.1))
  on_opening (is_opened what z q) =
      let o = dup_is (state_at w t) w.actor w.way.root w.root root_is ∙ q in
      let new = more_on is w.root (ap (λ r. r.after) o) in
      subst (λ v. Good w (suc t) (take w.way room (duping rest) v)) (sym (is.told ∙ ap (λ r. r.answer) o))
      (record {
        links = good.links;
        m = good.m;
        going = record { taken = good.going.taken; parts = good.going.parts; reaches = good.going.reaches; within = good.going.within };
        past = le_trans good.past (le_trans is.at.later (le-suc t));
        ends = ends_later (le_trans is.at.later (le-suc t)) good.ends;
        position_held = record { is_open = new.is_open; what = what; is_what = lived.objects t w.root what z; kind = refl };
        handles = handles_more (handles_kept is.kept good.handles) new;
      })

  -- what an answer to Dup makes of it
  pub duping_good : Good w (suc t) (take w.way room (duping rest) answer)
  duping_good = on_opening (opening_of (state_at w t) w.actor w.root)

module _ {w : WalkInHistory} (lived : Lived w) (now u : ℕ) (room : Bool) (handle : Handle) (names : List (List ℕ)) (rest : List AskedPart)
    (good : GoodEnd w now (holds handle names) rest) (answer : Answer) (is : StepAt w now u (NameBelow w.way.root handle.number) answer) where
  abbrev to : Spot
  to = spot_at w (holds handle names) good.links good.m

  ended : FoundAt w (suc u) handle names rest → (ps : List AskedPart) → rest ≡ ps → Good w (suc u) (ends_with handle names ps)
  ended found [] e = subst (FoundAt w (suc u) handle names) e found
  ended found (p ∷ ps) e = (subst (FoundAt w (suc u) handle names) e found, λ q. cc (q))

  raced : (Stands (state_at w u).nodes w.root handle.node names → ⊥) → EndsAt w now to rest → TellsError w Raced
  raced astray (at_all e) = inr (inl (record {
    to = to;
    trail = subst (λ ps. Trail (timeline w) ps (start w) to none) (sym (good.going.parts ∙ ap (λ ps. good.going.taken ++ ps) e ∙ append-nil good.going.taken)) (trail_at good.going);
    when = u;
    astray = record { at = own_earlier (timeline w) good.past is.at; astray = astray };
  }))
    where
      none : Option AskedPart
      none = None
  raced astray (at_missing deep follow n others e short first missing past) = inr (inr (record {
    goal = deep;
    front = good.going.taken;
    follow = follow;
    name = n;
    rest = others;
    parts = good.going.parts ∙ ap (λ ps. good.going.taken ++ ps) e;
    to = to;
    trail = trail_at good.going;
    first = first;
    missing = missing;
    when = u;
    astray = record { at = own_earlier (timeline w) past is.at; astray = astray };
  }))

  -- what an answer to NameBelow makes of it at the end
  pub ending_good : Good w (suc u) (take w.way room (ending handle names rest) answer)
  ending_good = judged_good lived now u handle names (ends_with handle names rest) answer is
      (root_open lived good.handles) good.position_held.is_open
      (λ v. take w.way room (ending handle names rest) v) (λ told. refl) refl
      (λ stands kept. ended (record {
        links = good.links;
        m = good.m;
        going = good.going;
        when = u;
        ends = ends_later is.at.later good.ends;
        stood = record { at = own_earlier (timeline w) good.past is.at; stands = stands };
        held = held_kept kept good.position_held;
        handles = handles_kept kept good.handles;
      }) rest refl)
      (λ astray kept. gave_up lived (handle.number ∷ []) Raced (raced astray good.ends) (handles_kept kept good.handles))

module _ {w : WalkInHistory} (lived : Lived w) (now t : ℕ) (room : Bool) (h : ℕ) (hs : List ℕ) (after : After)
    (good : GoodClosing w now h hs after) (answer : Answer) (is : StepAt w now t (Close h) answer) where
  gone : IsLess (state_at w t) w.actor (state_at w (suc t)) h
  gone = subst (λ s. IsLess (state_at w t) w.actor s h) (sym is.after) (Close-is_less (state_at w t) w.actor h)

  after_now : (a : After) → GoodAfter w now a → IsNotIn h (walk_after_handles a) → GoodAfter w (suc t) a
  after_now (gives error) g out = g
  after_now (onward position (todo inner own b)) g out =
      (going_later (le_trans is.at.later (le-suc t)) g.0, position_less w t position gone out (position_kept w now t position is.kept g.1))
  after_now (judges new names rest) g out = record {
    own = g.own;
    name = g.name;
    old = g.old;
    m = g.m;
    t = g.t;
    going = g.going;
    dir = g.dir;
    at = g.at;
    parent = g.parent;
    past = le_trans g.past (le_trans is.at.later (le-suc t));
    new_held = held_less gone (λ e. out.0 (sym e)) (held_kept is.kept g.new_held);
  }

  -- what comes after a Close
  pub closing_good : Good w (suc t) (take w.way room (closing h hs after) answer)
  closing_good = closes_good lived (suc t) hs after (after_now after good.comes good.apart.0) good.apart.1
      (handles_less (handles_kept is.kept good.handles) gone)

-- what it makes of a step that wasn't made
module _ {w : WalkInHistory} (lived : Lived w) (now : ℕ) where
  without_memory : TellsError w NoMemory → (walk : Walking) → is_close (due w.way walk) ≡ false → GoodWalk w now walk
      → Good w now (take w.way true walk (Refused NoMemory))
  without_memory told (opening position own follow n (todo inner rest b)) e good = gave_up lived (handles_of position) NoMemory told good.handles
  without_memory told (reading position link (todo inner rest b)) e good = gave_up lived (link.number ∷ handles_of position) NoMemory told good.handles
  without_memory told (rising old names rest) e good = gave_up lived (old.number ∷ []) NoMemory told good.handles
  without_memory told (judging new names rest) e good = gave_up lived (new.number ∷ []) NoMemory told good.1
  without_memory told (duping rest) e good = (told, good.handles)
  without_memory told (ending handle names rest) e good = gave_up lived (handle.number ∷ []) NoMemory told good.handles
  without_memory told (closing h hs after) e good = cc (e)

  without_room : TellsError w BookFull → (walk : Walking) → is_close (due w.way walk) ≡ false → GoodWalk w now walk
      → Good w now (take w.way true walk (Refused BookFull))
  without_room told (opening position own follow n (todo inner rest b)) e good = gave_up lived (handles_of position) BookFull told good.handles
  without_room told (reading position link (todo inner rest b)) e good = gave_up lived (link.number ∷ handles_of position) BookFull told good.handles
  without_room told (rising old names rest) e good = gave_up lived (old.number ∷ []) BookFull told good.handles
  without_room told (judging new names rest) e good = gave_up lived (new.number ∷ []) BookFull told good.1
  without_room told (duping rest) e good = (told, good.handles)
  without_room told (ending handle names rest) e good = gave_up lived (handle.number ∷ []) BookFull told good.handles
  without_room told (closing h hs after) e good = cc (e)

  pub not_made_good : (error : Errno) → IsWant error → TellsError w error → (walk : Walking) → is_close (due w.way walk) ≡ false → GoodWalk w now walk
      → Good w now (take w.way true walk (Refused error))
  not_made_good error (inl e) told walk open_step good =
      subst (λ x. Good w now (take w.way true walk (Refused x))) (sym e) (without_memory (subst (TellsError w) e told) walk open_step good)
  not_made_good error (inr e) told walk open_step good =
      subst (λ x. Good w now (take w.way true walk (Refused x))) (sym e) (without_room (subst (TellsError w) e told) walk open_step good)
