-- What every call's end leaves open, from what the ends of its walks tell.
use Rattle.std.specs.Prelude.{◌≡◌, ◌≢◌, ℕ, List, [], ◌∷◌, slice_set, Bool, true, false, if◌then◌else◌, Option, Some, None, Result, Ok, Err, refl}
use Rattle.std.proofs.Common.{sym, ap, subst, ◌∙◌}
use Rattle.path_text.specs.declared.errno.Errno.{Errno}
use Rattle.path_text.specs.declared.errno.Errno.TheVariants.{NoMemory, Invalid, BadHandle}
use Rattle.path_text.specs.declared.path.Rule.TheVariants.{Drop, Refuse}
use Rattle.path_text.specs.declared.path.Split.{Split}
use Rattle.path_text.specs.Reading.{Reading}
use Rattle.path_text.specs.Split.{split_of}
use Rattle.path_text.specs.Text.{text_fault, reading_of}
use Rattle.tree_model.specs.declared.answer.Answer.{Answer}
use Rattle.tree_model.specs.declared.answer.Answer.TheVariants.{Refused}
use Rattle.tree_model.specs.declared.answer.Answer.TheVariants as answers
use Rattle.tree_model.specs.declared.answer.Event.{Event}
use Rattle.tree_model.specs.declared.step.Mode.{Mode}
use Rattle.tree_model.specs.StepWith.{StepWith}
use Rattle.tree_model.specs.declared.step.StepOf.TheVariants.{Close}
use Rattle.tree_model.specs.State.{State}
use Rattle.tree_model.specs.Steps.{Outcome, outcome, refused, held}
use Rattle.tree_model.specs.Entries.{with_some}
use Rattle.tree_model.specs.History.{IsLegal, after_events}
use Rattle.tree_model.proofs.HistoryLaws.{histories_keep_trees}
use Rattle.tree_model.proofs.StepLaws.{others_handles_stay}
use Rattle.handles.specs.Objects.{StandingObject}
use Rattle.walk_plan.specs.declared.goal.Goal.{Goal}
use Rattle.walk_plan.specs.declared.goal.Goal.TheVariants.{Follow, NoFollow, Deepest}
use Rattle.step_resolver.specs.Asked.{is_deepest}
use Rattle.step_resolver.specs.Order.{Way, Handle, Turn, found, partial, failed, Line, answered, no_room, not_made, events_of}
use Rattle.step_resolver.specs.Order as walk
use Rattle.step_resolver.specs.View.{way_from}
use Rattle.step_resolver.specs.WalkHistory.{WalkInHistory, IsWalkInHistory, own_events}
use Rattle.step_resolver.specs.Headline.{Tells}
use Rattle.step_resolver.proofs.Underway.StepOutcomes.{IsMore, Close-is_less}
use Rattle.step_resolver.proofs.Underway.LegalHistory.{nothing_more}
use Rattle.bulk_ops.specs.MakeAllOrder as make
use Rattle.bulk_ops.specs.MakeAllTells.{Reach, not_begun, begun, MadeEnd, MakeTells}
use Rattle.bulk_ops.specs.RemoveAllOrder as remove
use Rattle.bulk_ops.specs.RemoveAllTells.{Tells as ClearTells}
use Rattle.bulk_ops.proofs.MakeAllEnds.{makes_tell}
use Rattle.bulk_ops.proofs.RemovingAll.EachEnd.{every_call_tells}
use Rattle.root_ops.specs.declared.aim.Aim.{Aim}
use Rattle.root_ops.specs.declared.aim.Aim.TheVariants.{Opens, Reads, Changes, WalksOn, Renames}
use Rattle.root_ops.specs.declared.aim.Change.{Change}
use Rattle.root_ops.specs.declared.aim.Renaming.{Renaming}
use Rattle.root_ops.specs.declared.aim.Wanted.TheVariants as wants
use Rattle.root_ops.specs.declared.below.Below.{Below}
use Rattle.root_ops.specs.declared.op.Op.{Op}
use Rattle.root_ops.specs.declared.op.Op.TheVariants.{Resolve, ResolveNoFollow, ReadLink, CreateFile, CreateDir, CreateLink, RemoveFile, RemoveDir, Rename, MkdirAll, RemoveAll, Single, Release}
use Rattle.root_ops.specs.Copies.{is_release}
use Rattle.root_ops.specs.Order.{Reply, opened, link_text, done, count, stepped, kept, fault, gives, CallTurn, more, ends, releasing, walked, walked_on, walks, renames, way_of, goal_of, held_by, unless_fault, make_way, makes, removing_turn, clear_in, in_directory, between, from_entry, renaming_of, single, is_single, same_owner, starts, LeadsTo}
use Rattle.root_ops.specs.Order as call
use Rattle.root_ops.specs.CallHistory.{CallInHistory, IsCallInHistory, actor_of, begin_of, end_of, HandlesStay, AfterDone, HandlesAfter, CallsTell}
use Rattle.root_ops.proofs.Rooms.{FindsNone, first_turn}
use Rattle.root_ops.proofs.Bulk.{makes_led, clears_led}
use Rattle.root_ops.proofs.Handles.HandlesHeld.{HandlesAre, change_leaves, read_leaves, rename_leaves, single_leaves, one_more}
use Rattle.root_ops.proofs.Handles.HandlesHeld as handles
use Rattle.root_ops.proofs.Handles.OwnEvents.{event_of, NextOwn, next_own}
use Rattle.root_ops.proofs.Handles.AfterWalks.{same_reply, IsTailTurn, TailEnds, tail_ends, closes_tail}
use Rattle.root_ops.proofs.Handles.WalkParts.{IsEnded, walk_ends, HasRoot, root_later, walk_in, ends_tell, part}

-- what a reply to a call, but for a Release, leaves open
abbrev Told : ℕ → State → State → Reply → Type 0
Told a old last (opened handle names) = IsMore old a last handle.number handle.node
Told a old last (link_text text) = (h : ℕ) → held last a h ≡ held old a h
Told a old last done = (h : ℕ) → held last a h ≡ held old a h
Told a old last (count n) = (h : ℕ) → held last a h ≡ held old a h
Told a old last (stepped answer) = (h : ℕ) → held last a h ≡ held old a h
Told a old last (kept standing) = ⊥
Told a old last (fault error) = (h : ℕ) → held last a h ≡ held old a h

module _ (below : Below) (r : ℕ) (old : State) where
  told_of_tail : (last : State) (reply : Reply) → TailEnds below below.root.owner.actor old last reply → Told below.root.owner.actor old last reply
  told_of_tail last (opened handle names) over = absurd over.plain
  told_of_tail last (link_text text) over = over.stay
  told_of_tail last done over = over.stay
  told_of_tail last (count n) over = over.stay
  told_of_tail last (stepped answer) over = over.stay
  told_of_tail last (kept standing) over = absurd over.plain
  told_of_tail last (fault error) over = over.stay

  -- the lines from this turn on lead to what is told, from this moment on
  abbrev EndsFrom : State → CallTurn → Type 0
  EndsFrom now turn = (lines : List Line) (window : List Event) (reply : Reply) → IsLegal now window → own_events below.root.owner.actor window ≡ events_of below.root.owner.actor lines
      → LeadsTo below turn lines (ends reply) → Told below.root.owner.actor old (after_events now window) reply

  tail_from : (now : State) (turn : CallTurn) → IsTailTurn below below.root.owner.actor old now turn → EndsFrom now turn
  tail_from now turn is lines window reply legal own leads =
      told_of_tail (after_events now window) reply (tail_ends below below.root.owner.actor old lines window now turn reply is leads legal own)

  opened_from : (now : State) (handle : Handle) (names : List (List ℕ)) → IsMore old below.root.owner.actor now handle.number handle.node → EndsFrom now (ends (opened handle names))
  opened_from now handle names is [] window reply legal own leads =
      subst (Told below.root.owner.actor old (after_events now window)) (same_reply (opened handle names) reply leads)
      (record {
        is_open = nothing_more others_handles_stay below.root.owner.actor window now own handle.number ∙ is.is_open;
        fresh = is.fresh;
        others = λ k ne. nothing_more others_handles_stay below.root.owner.actor window now own k ∙ is.others k ne;
      })
  opened_from now handle names is (line ∷ lines) window reply legal own leads = absurd leads

  -- ---- where a walk has ended

  -- what was opened is held beside the others
  held_new : (aim : Aim) (path : Reading) (now : State) (window : List Event) (lines : List Line) (handle : Handle) (names : List (List ℕ)) (hs : List ℕ)
      → Tells (walk_in below aim path r now window lines) (found handle names) → IsMore now below.root.owner.actor (after_events now window) handle.number handle.node
  held_new aim path now window lines handle names hs tells = record { is_open = tells.new.is_open; fresh = tells.new.fresh; others = tells.new.others }

  renames_tail : (now : State) (d e : ℕ) (renaming : Renaming) → HandlesAre below.root.owner.actor old now (e ∷ d ∷ []) → IsTailTurn below below.root.owner.actor old now (renames d e renaming)
  renames_tail now d e renaming are = on renaming.slash
    where
      on : (b : Bool) → IsTailTurn below below.root.owner.actor old now (if b then more (call.checking d e renaming) else more (call.acting wants.Done (call.rename_step renaming d e) (e ∷ d ∷ [])))
      on true = are
      on false = (rename_leaves renaming d e, are)

  not_deepest : (b : Bool) → b ≡ false → b ≡ true → ⊥
  not_deepest true f t = cc (f)
  not_deepest false f t = cc (t)

  -- the second walk of a rename
  renames_end : (d : ℕ) (renaming : Renaming) (path : Reading) (now : State) (window : List Event) (first : List Line) (room : Bool) (end : Turn) → IsEnded end
      → HandlesAre below.root.owner.actor old now (d ∷ []) → Tells (walk_in below (Renames d renaming) path r now window first) end
      → EndsFrom (after_events now window) (walked below room (Renames d renaming) end)
  renames_end d renaming path now window first room (walk.more w) ended are tells = absurd ended
  renames_end d renaming path now window first room (found handle names) ended are tells =
      tail_from (after_events now window) (renames d handle.number renaming)
      (renames_tail (after_events now window) d handle.number renaming
      (one_more below.root.owner.actor old now (after_events now window) handle.number handle.node (d ∷ []) are (held_new (Renames d renaming) path now window first handle names (d ∷ []) tells)))
  renames_end d renaming path now window first room (partial handle names rest) ended are tells = absurd (not_deepest false refl tells.goal)
  renames_end d renaming path now window first room (failed error) ended are tells =
      tail_from (after_events now window) (call.gives_up (d ∷ []) error)
      (closes_tail below below.root.owner.actor old (after_events now window) (d ∷ []) (gives (fault error)) tt
      (handles.kept below.root.owner.actor old now (after_events now window) (d ∷ []) tells.handles are))

  renames_walk : (d : ℕ) (renaming : Renaming) (path : Reading) (now : State) → HasRoot below r now → HandlesAre below.root.owner.actor old now (d ∷ [])
      → EndsFrom now (walked below true (Renames d renaming) (walk.begins (way_of below (Renames d renaming)) path))
  renames_walk d renaming path now has are lines window reply legal own leads =
      let w = walk_ends below (Renames d renaming) reply lines true (walk.begins (way_of below (Renames d renaming)) path) leads in
      let p = part below.root.owner.actor now window lines w.first w.rest legal own w.whole in
      let tells = ends_tell below (Renames d renaming) path r now p.before w.first w.end has p.legal_before p.own_before w.leads in
      subst (λ (last : State). Told below.root.owner.actor old last reply) (sym p.last)
      (renames_end d renaming path now p.before w.first w.room w.end w.ended are tells w.rest p.after reply p.legal_after p.own_after w.onward)

  same_walked : (d : ℕ) (renaming : Renaming) (turn : Turn) → walked_on d renaming turn ≡ walked below true (Renames d renaming) turn
  same_walked d renaming (walk.more w) = refl
  same_walked d renaming (found handle names) = refl
  same_walked d renaming (partial handle names rest) = refl
  same_walked d renaming (failed error) = refl

  fails_at_once : (d : ℕ) (renaming : Renaming) (now : State) (error : Errno) → HandlesAre below.root.owner.actor old now (d ∷ []) → EndsFrom now (walked_on d renaming (failed error))
  fails_at_once d renaming now error are =
      tail_from now (call.gives_up (d ∷ []) error) (closes_tail below below.root.owner.actor old now (d ∷ []) (gives (fault error)) tt are)

  without_room : (d : ℕ) (renaming : Renaming) (now : State) (begun : Turn) → FindsNone begun → HandlesAre below.root.owner.actor old now (d ∷ []) → EndsFrom now (walked_on d renaming (walk.for_walk false begun))
  without_room d renaming now (walk.more w) none are = fails_at_once d renaming now NoMemory are
  without_room d renaming now (found handle names) none are = absurd none
  without_room d renaming now (partial handle names rest) none are = absurd none
  without_room d renaming now (failed error) none are = fails_at_once d renaming now error are

  second_walk : (room : Bool) (d : ℕ) (renaming : Renaming) (path : Reading) (now : State) → HasRoot below r now → HandlesAre below.root.owner.actor old now (d ∷ [])
      → EndsFrom now (walked_on d renaming (walk.starts (way_from below.root Follow below.flags) room path))
  second_walk true d renaming path now has are =
      subst (λ (turn : CallTurn). EndsFrom now turn) (sym (same_walked d renaming (walk.begins (way_of below (Renames d renaming)) path))) (renames_walk d renaming path now has are)
  second_walk false d renaming path now has are =
      without_room d renaming now (walk.begins (way_from below.root Follow below.flags) path) (first_turn (way_from below.root Follow below.flags) path) are

  -- ---- the first walk

  none_some : (o : Option ℕ) → o ≡ None → o ≡ Some r → ⊥
  none_some None n s = cc (s)
  none_some (Some x) n s = cc (n)

  none_held : HandlesAre below.root.owner.actor old old []
  none_held = record { others = λ k out. refl; fresh = tt }

  found_end : (aim : Aim) (path : Reading) (window : List Event) (first : List Line) (room : Bool) (handle : Handle) (names : List (List ℕ)) → held_by aim ≡ [] → HasRoot below r old
      → IsMore old below.root.owner.actor (after_events old window) handle.number handle.node → EndsFrom (after_events old window) (walked below room aim (found handle names))
  found_end (Opens goal) path window first room handle names empty has is = opened_from (after_events old window) handle names is
  found_end Reads path window first room handle names empty has is =
      tail_from (after_events old window) (walked below room Reads (found handle names)) (read_leaves handle.number, one_more below.root.owner.actor old old (after_events old window) handle.number handle.node [] none_held is)
  found_end (Changes change n) path window first room handle names empty has is =
      tail_from (after_events old window) (walked below room (Changes change n) (found handle names)) (change_leaves change handle.number n, one_more below.root.owner.actor old old (after_events old window) handle.number handle.node [] none_held is)
  found_end (WalksOn next renaming) path window first room handle names empty has is =
      let now = after_events old window in
      let other : below.root.handle ≢ handle.number = λ e. none_some (held old below.root.owner.actor below.root.handle) (ap (held old below.root.owner.actor) e ∙ is.fresh) has.root in
      second_walk room handle.number renaming next now (root_later below r old window has (is.others below.root.handle other ∙ has.root))
      (one_more below.root.owner.actor old old now handle.number handle.node [] none_held is)
  found_end (Renames d renaming) path window first room handle names empty has is = cc (empty)

  failed_end : (aim : Aim) (now : State) (room : Bool) (error : Errno) → held_by aim ≡ [] → ((h : ℕ) → held now below.root.owner.actor h ≡ held old below.root.owner.actor h)
      → EndsFrom now (call.gives_up (held_by aim) error)
  failed_end aim now room error empty stay =
      subst (λ (hs : List ℕ). EndsFrom now (call.gives_up hs error)) (sym empty)
      (tail_from now (ends (fault error)) (tt, handles.kept below.root.owner.actor old old now [] stay none_held))

  walk_end : (aim : Aim) (path : Reading) (window : List Event) (first : List Line) (room : Bool) (end : Turn) → IsEnded end → held_by aim ≡ [] → is_deepest (goal_of aim) ≡ false → HasRoot below r old
      → Tells (walk_in below aim path r old window first) end → EndsFrom (after_events old window) (walked below room aim end)
  walk_end aim path window first room (walk.more w) ended empty goal has tells = absurd ended
  walk_end aim path window first room (found handle names) ended empty goal has tells =
      found_end aim path window first room handle names empty has (held_new aim path old window first handle names [] tells)
  walk_end aim path window first room (partial handle names rest) ended empty goal has tells = absurd (not_deepest (is_deepest (goal_of aim)) goal tells.goal)
  walk_end aim path window first room (failed error) ended empty goal has tells = failed_end aim (after_events old window) room error empty tells.handles

  walks_end : (aim : Aim) (path : Reading) → held_by aim ≡ [] → is_deepest (goal_of aim) ≡ false → HasRoot below r old → EndsFrom old (walks below aim path)
  walks_end aim path empty goal has lines window reply legal own leads =
      let w = walk_ends below aim reply lines true (walk.begins (way_of below aim) path) leads in
      let p = part below.root.owner.actor old window lines w.first w.rest legal own w.whole in
      let tells = ends_tell below aim path r old p.before w.first w.end has p.legal_before p.own_before w.leads in
      subst (λ (last : State). Told below.root.owner.actor old last reply) (sym p.last)
      (walk_end aim path p.before w.first w.room w.end w.ended empty goal has tells w.rest p.after reply p.legal_after p.own_after w.onward)

  fault_ends : (error : Errno) → EndsFrom old (ends (fault error))
  fault_ends error = tail_from old (ends (fault error)) (tt, none_held)

  unless_ends : (why : Option Errno) (turn : CallTurn) → EndsFrom old turn → EndsFrom old (unless_fault why turn)
  unless_ends (Some error) turn over = fault_ends error
  unless_ends None turn over = over

  -- ---- a bulk call

  -- the actor's own events are those of these lines, which a bulk call was told on this way
  abbrev bulk_in : Way → Reading → List Event → List Line → WalkInHistory
  bulk_in way path window lines = record {
    opening = old;
    before = [];
    window = window;
    actor = below.root.owner.actor;
    way = way;
    root = r;
    path = path;
    lines = lines;
  }

  is_bulk_in : (goal : Goal) (path : Reading) (window : List Event) (lines : List Line) → HasRoot below r old → IsLegal old window
      → own_events below.root.owner.actor window ≡ events_of below.root.owner.actor lines → IsWalkInHistory (bulk_in (way_from below.root goal below.flags) path window lines)
  is_bulk_in goal path window lines has legal own =
      record { tree = has.tree; legal_before = tt; legal = legal; own = own; root = has.root; root_is_dir = has.root_is_dir }

  made_told : (path : Reading) (window : List Event) (lines : List Line) (end : make.MakeTurn) (reply : Reply) → makes end ≡ ends reply
      → MakeTells (bulk_in (make_way below) path window lines) end → Told below.root.owner.actor old (after_events old window) reply
  made_told path window lines (make.more call) reply is tells = cc (is)
  made_told path window lines (make.made handle names) reply is tells =
      subst (Told below.root.owner.actor old (after_events old window)) (same_reply (opened handle names) reply is) (by tells.reach tells.ends)
    where
      by : (reach : Reach (bulk_in (make_way below) path window lines)) → MadeEnd (bulk_in (make_way below) path window lines) reach handle names
          → IsMore old below.root.owner.actor (after_events old window) handle.number handle.node
      by not_begun made = record { is_open = made.found.opens.new.is_open; fresh = made.found.opens.new.fresh; others = made.found.opens.new.others }
      by (begun p) made = record { is_open = made.new.is_open; fresh = made.new.fresh; others = made.new.others }
  made_told path window lines (make.failed error) reply is tells =
      subst (Told below.root.owner.actor old (after_events old window)) (same_reply (fault error) reply is) tells.handles

  makes_end : (path : Reading) → HasRoot below r old → EndsFrom old (makes (make.begins (make_way below) path))
  makes_end path has lines window reply legal own leads =
      let by = makes_led below (make.begins (make_way below) path) lines reply leads in
      made_told path window lines by.end reply by.is_reply
      (makes_tell (bulk_in (make_way below) path window lines) by.end (is_bulk_in Deepest path window lines has legal own) by.led)

  cleared_told : (path : Reading) (window : List Event) (lines : List Line) (target : List ℕ) (end : remove.Turn) (reply : Reply) → removing_turn end ≡ ends reply
      → ClearTells (bulk_in (way_from below.root Follow below.flags) path window lines) target end → Told below.root.owner.actor old (after_events old window) reply
  cleared_told path window lines target (remove.more call) reply is tells = cc (is)
  cleared_told path window lines target (remove.removed n) reply is tells =
      subst (Told below.root.owner.actor old (after_events old window)) (same_reply (count n) reply is) tells.handles
  cleared_told path window lines target (remove.failed error) reply is tells =
      subst (Told below.root.owner.actor old (after_events old window)) (same_reply (fault error) reply is) tells.handles

  clears_at : (split : Split) → HasRoot below r old → EndsFrom old (removing_turn (remove.begins (way_from below.root Follow below.flags) split.name split.dir))
  clears_at split has lines window reply legal own leads =
      let way = way_from below.root Follow below.flags in
      let by = clears_led below (remove.begins way split.name split.dir) lines reply leads in
      cleared_told split.dir window lines split.name by.end reply by.is_reply
      (every_call_tells (bulk_in way split.dir window lines) split.name by.end (is_bulk_in Follow split.dir window lines has legal own) refl by.led)

  clears_end : (split : Result Split Errno) → HasRoot below r old → EndsFrom old (clear_in below split)
  clears_end (Err error) has = fault_ends error
  clears_end (Ok split) has = clears_at split has

  -- ---- each operation

  in_directory_ends : (change : Change) (split : Result Split Errno) → HasRoot below r old → EndsFrom old (in_directory below change split)
  in_directory_ends change (Err error) has = fault_ends error
  in_directory_ends change (Ok split) has = walks_end (Changes change split.name) split.dir refl refl has

  between_ends : (mode : Mode) (d : Split) (split : Result Split Errno) → HasRoot below r old → EndsFrom old (between below mode d split)
  between_ends mode d (Err error) has = fault_ends error
  between_ends mode d (Ok e) has = walks_end (WalksOn e.dir (renaming_of d e mode)) d.dir refl refl has

  from_entry_ends : (mode : Mode) (text : List ℕ) (split : Result Split Errno) → HasRoot below r old → EndsFrom old (from_entry below mode text split)
  from_entry_ends mode text (Err error) has = fault_ends error
  from_entry_ends mode text (Ok d) has = unless_ends (text_fault text) _ (between_ends mode d (split_of (reading_of text) Drop) has)

  single_ends : (step : StepWith ℕ) → EndsFrom old (single step)
  single_ends step = on (is_single step) refl
    where
      on : (b : Bool) → is_single step ≡ b → EndsFrom old (if b then more (call.acting wants.Any step []) else ends (fault Invalid))
      on true e = tail_from old (more (call.acting wants.Any step [])) (single_leaves step e, none_held)
      on false e = fault_ends Invalid

  not_single_ends : (b : Bool) → EndsFrom old (if b then ends (fault NoMemory) else ends (fault Invalid))
  not_single_ends true = fault_ends NoMemory
  not_single_ends false = fault_ends Invalid

  op_ends : (room : Bool) (op : Op) → is_release op ≡ false → HasRoot below r old → EndsFrom old (starts below room op)
  op_ends true (Resolve path) e has = unless_ends (text_fault path) _ (walks_end (Opens Follow) (reading_of path) refl refl has)
  op_ends true (ResolveNoFollow path) e has = unless_ends (text_fault path) _ (walks_end (Opens NoFollow) (reading_of path) refl refl has)
  op_ends true (ReadLink path) e has = unless_ends (text_fault path) _ (walks_end Reads (reading_of path) refl refl has)
  op_ends true (CreateFile path) e has = unless_ends (text_fault path) _ (in_directory_ends _ (split_of (reading_of path) Refuse) has)
  op_ends true (CreateDir path) e has = unless_ends (text_fault path) _ (in_directory_ends _ (split_of (reading_of path) Drop) has)
  op_ends true (CreateLink path text) e has = unless_ends (text_fault path) _ (in_directory_ends _ (split_of (reading_of path) Refuse) has)
  op_ends true (RemoveFile path) e has = unless_ends (text_fault path) _ (in_directory_ends _ (split_of (reading_of path) Refuse) has)
  op_ends true (RemoveDir path) e has = unless_ends (text_fault path) _ (in_directory_ends _ (split_of (reading_of path) Drop) has)
  op_ends true (Rename d n mode) e has = unless_ends (text_fault d) _ (from_entry_ends mode n (split_of (reading_of d) Drop) has)
  op_ends true (MkdirAll path) e has = unless_ends (text_fault path) _ (makes_end (reading_of path) has)
  op_ends true (RemoveAll path) e has = unless_ends (text_fault path) _ (clears_end (split_of (reading_of path) Drop) has)
  op_ends true (Single step) e has = single_ends step
  op_ends true (Release standing) e has = cc (e)
  op_ends false (Resolve path) e has = unless_ends (text_fault path) _ (fault_ends NoMemory)
  op_ends false (ResolveNoFollow path) e has = unless_ends (text_fault path) _ (fault_ends NoMemory)
  op_ends false (ReadLink path) e has = unless_ends (text_fault path) _ (fault_ends NoMemory)
  op_ends false (CreateFile path) e has = unless_ends (text_fault path) _ (fault_ends NoMemory)
  op_ends false (CreateDir path) e has = unless_ends (text_fault path) _ (fault_ends NoMemory)
  op_ends false (CreateLink path text) e has = unless_ends (text_fault path) _ (fault_ends NoMemory)
  op_ends false (RemoveFile path) e has = unless_ends (text_fault path) _ (fault_ends NoMemory)
  op_ends false (RemoveDir path) e has = unless_ends (text_fault path) _ (fault_ends NoMemory)
  op_ends false (Rename d n mode) e has = unless_ends (text_fault d) _ (fault_ends NoMemory)
  op_ends false (MkdirAll path) e has = unless_ends (text_fault path) _ (fault_ends NoMemory)
  op_ends false (RemoveAll path) e has = unless_ends (text_fault path) _ (fault_ends NoMemory)
  op_ends false (Single step) e has = not_single_ends (is_single step)
  op_ends false (Release standing) e has = cc (e)

-- ---- a call in a history

after_done : (c : CallInHistory) (op : Op) → is_release op ≡ false → HandlesStay c → AfterDone c op
after_done c (Resolve path) e stay = stay
after_done c (ResolveNoFollow path) e stay = stay
after_done c (ReadLink path) e stay = stay
after_done c (CreateFile path) e stay = stay
after_done c (CreateDir path) e stay = stay
after_done c (CreateLink path text) e stay = stay
after_done c (RemoveFile path) e stay = stay
after_done c (RemoveDir path) e stay = stay
after_done c (Rename d n mode) e stay = stay
after_done c (MkdirAll path) e stay = stay
after_done c (RemoveAll path) e stay = stay
after_done c (Single step) e stay = stay
after_done c (Release standing) e stay = cc (e)

after_told : (c : CallInHistory) (reply : Reply) → is_release c.op ≡ false → Told (actor_of c) (begin_of c) (end_of c) reply → HandlesAfter c reply
after_told c (opened handle names) e told = record { is_open = told.is_open; fresh = told.fresh; others = told.others }
after_told c (link_text text) e told = told
after_told c done e told = after_done c c.op e told
after_told c (count n) e told = told
after_told c (stepped answer) e told = told
after_told c (kept standing) e told = absurd told
after_told c (fault error) e told = told

-- a Close is refused and leaves the tree, or done
data CloseEffect (s : State) (a h : ℕ) (o : Outcome) : Type 0 where
  not_open : o ≡ refused s BadHandle → CloseEffect s a h o
  is_closed : o.answer ≡ answers.Done → CloseEffect s a h o

abbrev close_through : State → ℕ → Option ℕ → Outcome
close_through s h o = with_some o (refused s BadHandle) (λ x. record { answer = answers.Done; after = record { nodes = s.nodes; handles = slice_set s.handles h None } })

close_effect : (s : State) (a h : ℕ) → CloseEffect s a h (outcome s a (Close h))
close_effect s a h = on (held s a h) refl
  where
    on : (o : Option ℕ) → held s a h ≡ o → CloseEffect s a h (outcome s a (Close h))
    on None e = not_open (ap (close_through s h) e)
    on (Some x) e = is_closed (ap (λ (o : Option ℕ). (close_through s h o).answer) e)

module _ (c : CallInHistory) (is : IsCallInHistory c) (standing : StandingObject) (same : c.op ≡ Release standing) where
  closed_one : (next : NextOwn (actor_of c) (begin_of c) c.window (Close standing.handle) answers.Done []) → HandlesAfter c done
  closed_one next =
      let less = Close-is_less next.at (actor_of c) standing.handle in
      let last = (λ (h : ℕ). ap (λ (s : State). held s (actor_of c) h) next.ends ∙ nothing_more others_handles_stay (actor_of c) next.rest (outcome next.at (actor_of c) (Close standing.handle)).after next.own h) in
      subst (AfterDone c) (sym same)
      (record { closed = last standing.handle ∙ less.closed; others = λ h ne. last h ∙ less.others h ne ∙ next.kept h })

  released : (answer : Answer) (lines : List Line) (reply : Reply) → own_events (actor_of c) c.window ≡ record { actor = actor_of c; step = Close standing.handle; answer = answer } ∷ events_of (actor_of c) lines
      → LeadsTo c.below (ends (call.reply_to wants.Done answer)) lines (ends reply) → HandlesAfter c reply
  released answer (line ∷ lines) reply own leads = absurd leads
  released answer [] reply own leads = subst (HandlesAfter c) (same_reply (call.reply_to wants.Done answer) reply leads) (by (next_own (actor_of c) c.window (begin_of c) (Close standing.handle) answer [] is.legal own))
    where
      by_effect : (next : NextOwn (actor_of c) (begin_of c) c.window (Close standing.handle) answer []) → CloseEffect next.at (actor_of c) standing.handle (outcome next.at (actor_of c) (Close standing.handle))
          → HandlesAfter c (call.reply_to wants.Done answer)
      by_effect next (not_open e) =
          let told : answer ≡ Refused BadHandle = next.told ∙ ap (λ (o : Outcome). o.answer) e in
          subst (λ (t : Answer). HandlesAfter c (call.reply_to wants.Done t)) (sym told)
          (λ h. ap (λ (s : State). held s (actor_of c) h) next.ends ∙ nothing_more others_handles_stay (actor_of c) next.rest (outcome next.at (actor_of c) (Close standing.handle)).after next.own h
          ∙ ap (λ (o : Outcome). held o.after (actor_of c) h) e ∙ next.kept h)
      by_effect next (is_closed e) =
          let told : answer ≡ answers.Done = next.told ∙ e in
          subst (λ (t : Answer). HandlesAfter c (call.reply_to wants.Done t)) (sym told)
          (closed_one (subst (λ (t : Answer). NextOwn (actor_of c) (begin_of c) c.window (Close standing.handle) t []) told next))

      by : NextOwn (actor_of c) (begin_of c) c.window (Close standing.handle) answer [] → HandlesAfter c (call.reply_to wants.Done answer)
      by next = by_effect next (close_effect next.at (actor_of c) standing.handle)

  unreleased : (error : Errno) (lines : List Line) (reply : Reply) → own_events (actor_of c) c.window ≡ events_of (actor_of c) lines
      → LeadsTo c.below (ends (fault error)) lines (ends reply) → HandlesAfter c reply
  unreleased error (line ∷ lines) reply own leads = absurd leads
  unreleased error [] reply own leads = subst (HandlesAfter c) (same_reply (fault error) reply leads) (nothing_more others_handles_stay (actor_of c) c.window (begin_of c) own)

  at_release : (lines : List Line) (reply : Reply) → own_events (actor_of c) c.window ≡ events_of (actor_of c) lines
      → LeadsTo c.below (more (releasing standing.handle)) lines (ends reply) → HandlesAfter c reply
  at_release [] reply own leads = cc (leads)
  at_release (answered step answer ∷ lines) reply own leads =
      released answer lines reply (own ∙ ap (λ (made : StepWith ℕ). event_of (actor_of c) made answer ∷ events_of (actor_of c) lines) leads.0) leads.1
  at_release (no_room step answer ∷ lines) reply own leads =
      released answer lines reply (own ∙ ap (λ (made : StepWith ℕ). event_of (actor_of c) made answer ∷ events_of (actor_of c) lines) leads.0) leads.1
  at_release (not_made error ∷ lines) reply own leads = unreleased error lines reply own leads.1

  at_keeping : (lines : List Line) (reply : Reply) → own_events (actor_of c) c.window ≡ events_of (actor_of c) lines
      → LeadsTo c.below (ends (kept standing)) lines (ends reply) → HandlesAfter c reply
  at_keeping (line ∷ lines) reply own leads = absurd leads
  at_keeping [] reply own leads = subst (HandlesAfter c) (same_reply (kept standing) reply leads) (nothing_more others_handles_stay (actor_of c) c.window (begin_of c) own)

  by_owner : (b : Bool) (lines : List Line) (reply : Reply) → own_events (actor_of c) c.window ≡ events_of (actor_of c) lines
      → LeadsTo c.below (if b then more (releasing standing.handle) else ends (kept standing)) lines (ends reply) → HandlesAfter c reply
  by_owner true lines reply own leads = at_release lines reply own leads
  by_owner false lines reply own leads = at_keeping lines reply own leads

  by_room : (room : Bool) (lines : List Line) (reply : Reply) → own_events (actor_of c) c.window ≡ events_of (actor_of c) lines
      → LeadsTo c.below (starts c.below room (Release standing)) lines (ends reply) → HandlesAfter c reply
  by_room true lines reply own leads = by_owner (same_owner standing.owner c.below.root.owner) lines reply own leads
  by_room false lines reply own leads = by_owner (same_owner standing.owner c.below.root.owner) lines reply own leads

release_of : (op : Op) → is_release op ≡ true → (standing : StandingObject) × (op ≡ Release standing)
release_of (Resolve path) e = cc (e)
release_of (ResolveNoFollow path) e = cc (e)
release_of (ReadLink path) e = cc (e)
release_of (CreateFile path) e = cc (e)
release_of (CreateDir path) e = cc (e)
release_of (CreateLink path text) e = cc (e)
release_of (RemoveFile path) e = cc (e)
release_of (RemoveDir path) e = cc (e)
release_of (Rename d n mode) e = cc (e)
release_of (MkdirAll path) e = cc (e)
release_of (RemoveAll path) e = cc (e)
release_of (Single step) e = cc (e)
release_of (Release standing) e = (standing, refl)

pub calls_tell : CallsTell
calls_tell c reply is leads = on (is_release c.op) refl
  where
    has : HasRoot c.below c.root (begin_of c)
    has = record { tree = (histories_keep_trees c.opening c.before is.tree).0; root = is.root; root_is_dir = is.root_is_dir }

    on : (b : Bool) → is_release c.op ≡ b → HandlesAfter c reply
    on false e = after_told c reply e (op_ends c.below c.root (begin_of c) c.room c.op e has c.lines c.window reply is.legal is.own leads)
    on true e =
        let found' = release_of c.op e in
        by_room c is found'.0 found'.1 c.room c.lines reply is.own
        (subst (λ (op : Op). LeadsTo c.below (starts c.below c.room op) c.lines (ends reply)) found'.1 leads)
