-- The walks of a call: their lines, up to their ends, and what these leave open.
use Rattle.std.specs.Prelude.{◌≡◌, ◌⊎◌, ℕ, List, [], ◌++◌, length, Bool, true, false, Option, Some, None, refl}
use Rattle.std.proofs.Common.{sym, ap, subst, ◌∙◌, inl, inr, ⊎_elim, arith}
use Rattle.path_text.specs.declared.errno.Errno.TheVariants.{NoMemory}
use Rattle.path_text.specs.Reading.{Reading}
use Rattle.tree_model.specs.declared.answer.Event.{Event}
use Rattle.tree_model.specs.declared.inode.Object.{Object}
use Rattle.tree_model.specs.State.{State, object_at, is_dir, is_directory}
use Rattle.tree_model.specs.Steps.{held}
use Rattle.tree_model.specs.Trees.{IsState}
use Rattle.tree_model.specs.History.{IsLegal, after_events, tree_at}
use Rattle.tree_model.proofs.HistoryLaws.{histories_keep_trees, objects_stay_for_good, trees_begin_and_end, legal_histories_join}
use Rattle.step_resolver.specs.Failures.{TellsWant}
use Rattle.step_resolver.specs.Order.{Turn, Line, events_of, begins}
use Rattle.step_resolver.specs.Order as walk
use Rattle.step_resolver.specs.WalkHistory.{WalkInHistory, own_events}
use Rattle.step_resolver.specs.Headline.{Tells}
use Rattle.step_resolver.proofs.Ends.EveryWalk.{walks_tell}
use Rattle.root_ops.specs.declared.aim.Aim.{Aim}
use Rattle.root_ops.specs.declared.below.Below.{Below}
use Rattle.root_ops.specs.Order.{Reply, ends, walking, walked, way_of, calls, LeadsTo}
use Rattle.bulk_ops.proofs.Within.{short_told}
use Rattle.root_ops.proofs.Within.{walk_of_call}
use Rattle.step_machine.specs.Machine.{HasEnded}
use Rattle.step_machine.proofs.Split.{runs_split}
use Rattle.step_resolver.proofs.TurnsTell.{is_machine}
use Rattle.step_resolver.proofs.DrivenWalks.{joined_events}
use Rattle.bulk_ops.proofs.OwnEvents.{cut}

-- not on its way any more
abbrev pub IsEnded : Turn → Type 0
IsEnded turn = HasEnded (walk.under_way turn)

module _ (below : Below) (aim : Aim) (reply : Reply) where
  -- the walk's own lines led it to an end, and the others led on from there
  pub record WalkEnds (begun : Bool) (turn : Turn) (lines : List Line) : Type 0 where
    pub first : List Line
    pub rest : List Line
    pub end : Turn
    pub room : Bool
    pub whole : lines ≡ first ++ rest
    pub leads : walk.LeadsTo (way_of below aim) turn first end
    pub ended : IsEnded end
    -- why what the walk's last answer brought found no memory
    pub lacked : room ≡ false → (begun ≡ false) ⊎ TellsWant NoMemory first
    pub onward : LeadsTo below (walked below room aim end) rest (ends reply)

  pub walk_ends : (lines : List Line) (room : Bool) (turn : Turn) → LeadsTo below (walked below room aim turn) lines (ends reply) → WalkEnds room turn lines
  walk_ends lines room turn leads =
      let way = way_of below aim in
      let split = runs_split (walk.walks way) (calls below) (λ r. walked below r aim) (λ w. walking w aim) (is_machine way) (walk_of_call below aim) room turn lines (ends reply) tt leads in
      record {
        first = split.first;
        rest = split.rest;
        end = split.at;
        room = split.room_there;
        whole = split.joined;
        leads = split.led;
        ended = split.over;
        lacked = λ e. ⊎_elim (λ begun. inl begun) (λ short. inr (short_told split.first short)) (split.short e);
        onward = split.onward;
      }

-- ---- the tree as a walk begins

-- a tree with the root's handle open on a directory
pub record HasRoot (below : Below) (r : ℕ) (now : State) : Type 0 where
  pub tree : IsState now
  pub root : held now below.root.owner.actor below.root.handle ≡ Some r
  pub root_is_dir : is_dir now.nodes r ≡ true

is_object : (o : Option Object) → is_directory o ≡ true → (what : Object) × (o ≡ Some what)
is_object None e = cc (e)
is_object (Some what) e = (what, refl)

-- it is a directory still
dir_stays : (now : State) (events : List Event) (r : ℕ) → is_dir now.nodes r ≡ true → is_dir (after_events now events).nodes r ≡ true
dir_stays now events r e =
    let what = is_object (object_at now.nodes r) e in
    let later : object_at (tree_at now events (length events)).nodes r ≡ Some what.0
    = objects_stay_for_good now events 0 (length events) r what.0 (omega arith) (ap (λ (s : State). object_at s.nodes r) (trees_begin_and_end now events).0 ∙ what.1) in
    ap is_directory (ap (λ (s : State). object_at s.nodes r) (sym (trees_begin_and_end now events).1) ∙ later) ∙ ap is_directory (sym what.1) ∙ e

pub root_later : (below : Below) (r : ℕ) (now : State) (events : List Event) → HasRoot below r now
    → held (after_events now events) below.root.owner.actor below.root.handle ≡ Some r → HasRoot below r (after_events now events)
root_later below r now events has open' = record {
  tree = (histories_keep_trees now events has.tree).0;
  root = open';
  root_is_dir = dir_stays now events r has.root_is_dir;
}

-- ---- what the end of a walk leaves

-- the walk whose lines these are, in its part of the window
abbrev pub walk_in : Below → Aim → Reading → ℕ → State → List Event → List Line → WalkInHistory
walk_in below aim path r now window lines = record {
  opening = now;
  before = [];
  window = window;
  actor = below.root.owner.actor;
  way = way_of below aim;
  root = r;
  path = path;
  lines = lines;
}

pub ends_tell : (below : Below) (aim : Aim) (path : Reading) (r : ℕ) (now : State) (window : List Event) (lines : List Line) (end : Turn) → HasRoot below r now → IsLegal now window
    → own_events below.root.owner.actor window ≡ events_of below.root.owner.actor lines
    → walk.LeadsTo (way_of below aim) (begins (way_of below aim) path) lines end → Tells (walk_in below aim path r now window lines) end
ends_tell below aim path r now window lines end has legal own leads =
    walks_tell (walk_in below aim path r now window lines) end
    (record { tree = has.tree; legal_before = tt; legal = legal; own = own; root = has.root; root_is_dir = has.root_is_dir }) leads

-- the part of the window that is the walk's, and the part after it
pub record Parted (a : ℕ) (now : State) (window : List Event) (first rest : List Line) : Type 0 where
  pub before : List Event
  pub after : List Event
  pub own_before : own_events a before ≡ events_of a first
  pub own_after : own_events a after ≡ events_of a rest
  pub legal_before : IsLegal now before
  pub legal_after : IsLegal (after_events now before) after
  pub last : after_events now window ≡ after_events (after_events now before) after

pub part : (a : ℕ) (now : State) (window : List Event) (lines first rest : List Line) → IsLegal now window → own_events a window ≡ events_of a lines → lines ≡ first ++ rest
    → Parted a now window first rest
part a now window lines first rest legal own whole =
    let parts = cut a window (events_of a first) (events_of a rest) (own ∙ ap (events_of a) whole ∙ joined_events a first rest) in
    let joined = legal_histories_join now parts.before parts.after in
    let both = joined.0.0 (subst (λ (es : List Event). IsLegal now es) parts.whole legal) in
    record {
      before = parts.before;
      after = parts.after;
      own_before = parts.own_before;
      own_after = parts.own_after;
      legal_before = both.0;
      legal_after = both.1;
      last = ap (λ (es : List Event). after_events now es) parts.whole ∙ joined.1;
    }
