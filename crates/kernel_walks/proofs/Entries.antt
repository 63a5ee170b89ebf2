-- What comes of a call with one walk: a resolve, a reading of a link, or a change of one entry.
use Rattle.std.specs.Prelude.{◌≡◌, ℕ, List, [], ◌∷◌, Bool, true, false, refl}
use Rattle.std.proofs.Common.{sym, ap, subst, ◌∙◌, arith}
use Rattle.path_text.specs.declared.path.Rule.{Rule}
use Rattle.path_text.specs.declared.path.Split.{Split}
use Rattle.path_text.specs.Reading.{Reading}
use Rattle.path_text.specs.Text.{reading_of}
use Rattle.tree_model.specs.State.{State}
use Rattle.tree_model.specs.StepWith.{StepWith}
use Rattle.tree_model.specs.declared.step.StepOf.TheVariants as steps
use Rattle.tree_model.specs.Steps.{held}
use Rattle.tree_model.proofs.StepLaws.{others_handles_stay}
use Rattle.walk_plan.specs.declared.goal.Goal.{Goal}
use Rattle.step_machine.specs.Machine.{HasEnded}
use Rattle.step_resolver.specs.Order.{Handle, Line, ending, events_of}
use Rattle.step_resolver.specs.Order as walk
use Rattle.step_resolver.specs.WalkHistory.{WalkInHistory, IsWalkInHistory, begin_of, end_of}
use Rattle.step_resolver.proofs.Underway.LegalHistory.{nothing_more}
use Rattle.step_resolver.proofs.Underway.StepOutcomes.{IsMore}
use Rattle.root_ops.specs.declared.aim.Aim.{Aim}
use Rattle.root_ops.specs.declared.aim.Aim.TheVariants.{Opens, Reads, Changes}
use Rattle.root_ops.specs.declared.aim.Change.{Change}
use Rattle.root_ops.specs.declared.aim.Wanted.{Wanted}
use Rattle.root_ops.specs.declared.aim.Wanted.TheVariants as wants
use Rattle.root_ops.specs.Acts.{along, IsEntry}
use Rattle.root_ops.specs.CallHistory.{CallInHistory, IsCallInHistory, actor_of, IsPath, HandlesAfter}
use Rattle.root_ops.specs.CallHistory as call
use Rattle.root_ops.specs.Copies.{is_release}
use Rattle.root_ops.specs.Order.{Reply, opened, link_text, done, count, stepped, kept, fault, gives, acting, more, ends, held_by, goal_of, way_of, walking, walked, walks, change_step, LeadsTo}
use Rattle.root_ops.proofs.FirstSteps.{lines_few}
use Rattle.root_ops.proofs.Replies.{at_its_end, no_lines}
use Rattle.root_ops.proofs.Handles.AfterWalks.{tail_ends}
use Rattle.root_ops.proofs.Handles.BulkHistory.{is_bulk_of}
use Rattle.root_ops.proofs.Handles.HandlesHeld.{HandlesAre, LeavesHandles, change_leaves, read_leaves}
use Rattle.root_ops.proofs.Acts.OwnStep.{ChangeEnds, change_ends, ReadEnds, read_ends, acted}
use Rattle.kernel_walks.specs.SeenTo.{SeenTo, after_seen}
use Rattle.kernel_walks.specs.Tells.{ResolveSees, SeesDirectory, EntrySees, SeesLink, LinkSees, Sees}
use Rattle.kernel_walks.specs.Told.{AreTold}
use Rattle.kernel_walks.proofs.Outcome.{Outcome, all_told, some_seen, same_lines, told_alone, handles_stay, opened_one, held_then}
use Rattle.kernel_walks.proofs.Parts.{How, by_steps, by_kernel, Parts, parts_of, aimed_walk}
use Rattle.kernel_walks.proofs.Past.{IsPastTurn, closes_past, past_is_told}
use Rattle.kernel_walks.proofs.SeenTo.{seen_by_kernel, happens_after, is_held, after_is, ends_there}

module _ (c : CallInHistory) (reply : Reply) (is : IsCallInHistory c) where
  abbrev pub a : ℕ
  a = actor_of c

  abbrev pub old : State
  old = call.begin_of c

  pub none_held : HandlesAre a old old []
  none_held = record { others = λ k out. refl; fresh = tt }

  abbrev pub part_of : Aim → Reading → WalkInHistory
  part_of aim path = along c (goal_of aim) path

  pub is_part : (aim : Aim) (path : Reading) → IsWalkInHistory (part_of aim path)
  is_part aim path = is_bulk_of c (goal_of aim) path is

  -- ---- once the object is found

  -- where one own step is made by the handle that was opened, and then that is closed
  module _ (aim : Aim) (path : Reading) (handle : Handle) (names : List (List ℕ)) (seen : SeenTo (part_of aim path) handle names) where
    tail_stays : (wanted : Wanted) (step : StepWith ℕ) → LeavesHandles step → LeadsTo c.below (more (acting wanted step (handle.number ∷ []))) seen.rest (ends reply)
        → is_release c.op ≡ false → HandlesAfter c reply
    tail_stays wanted step leaves onward unreleased =
        handles_stay c reply (end_of (after_seen seen)) unreleased (ends_there (part_of aim path) (is_part aim path) handle names seen)
        (tail_ends c.below a old seen.rest seen.later (begin_of (after_seen seen)) (more (acting wanted step (handle.number ∷ []))) reply
        (leaves, held_then (part_of aim path) handle names seen (is_part aim path) old [] none_held) onward
        (after_is (part_of aim path) (is_part aim path) handle names seen).legal seen.own_later)

  -- ---- a change of one entry

  module _ (rule : Rule) (change : Change) (text : List ℕ) (split : Split) (entry : IsEntry text rule split) where
    abbrev change_aim : Aim
    change_aim = Changes change split.name

    module _ (dir : Handle) (names : List (List ℕ)) (seen : SeenTo (part_of change_aim split.dir) dir names)
        (onward : LeadsTo c.below (more (acting wants.Done (change_step change dir.number split.name) (dir.number ∷ []))) seen.rest (ends reply)) where
      abbrev directory : SeesDirectory c text rule
      directory = record {
        split = split;
        entry = entry;
        dir = dir;
        names = names;
        seen = seen;
        few = lines_few c.below 5 seen.rest (more (acting wants.Done (change_step change dir.number split.name) (dir.number ∷ []))) (ends reply) (omega arith) onward;
      }

      change_told : (r : Reply) → ChangeEnds (after_seen seen) change dir split.name seen.rest r → EntrySees c rule change text r
      change_told done did = record { sees = directory; did = did }
      change_told (fault error) why = record { sees = directory; why = why.0; leaves = why.1 }
      change_told (opened handle others) ends' = absurd ends'
      change_told (link_text read) ends' = absurd ends'
      change_told (count n) ends' = absurd ends'
      change_told (stepped answer) ends' = absurd ends'
      change_told (kept standing) ends' = absurd ends'

      pub change_sees : EntrySees c rule change text reply
      change_sees =
          change_told reply
          (change_ends (after_seen seen) c.below reply change dir split.name seen.rest (is_held (part_of change_aim split.dir) (is_part change_aim split.dir) dir names seen)
          (acted (after_seen seen) c.below reply seen.rest 0 wants.Done (change_step change dir.number split.name) (dir.number ∷ [])
          (happens_after (part_of change_aim split.dir) (is_part change_aim split.dir) dir names seen) onward))

      pub change_stays : is_release c.op ≡ false → HandlesAfter c reply
      change_stays unreleased = tail_stays change_aim split.dir dir names seen wants.Done (change_step change dir.number split.name) (change_leaves change dir.number split.name) onward unreleased

  -- ---- read link

  module _ (text : List ℕ) (fine : IsPath text) (link : Handle) (names : List (List ℕ)) (seen : SeenTo (part_of Reads (reading_of text)) link names)
      (onward : LeadsTo c.below (more (acting wants.Text (steps.ReadLink link.number) (link.number ∷ []))) seen.rest (ends reply)) where
    abbrev object : SeesLink c text
    object = record {
      is_path = fine;
      link = link;
      names = names;
      seen = seen;
      few = lines_few c.below 5 seen.rest (more (acting wants.Text (steps.ReadLink link.number) (link.number ∷ []))) (ends reply) (omega arith) onward;
    }

    read_told : (r : Reply) → ReadEnds (after_seen seen) link seen.rest r → LinkSees c text r
    read_told (link_text read) did = record { sees = object; did = did.0; leaves = did.1 }
    read_told (fault error) why = record { sees = object; why = why.0; leaves = why.1 }
    read_told (opened handle others) ends' = absurd ends'
    read_told done ends' = absurd ends'
    read_told (count n) ends' = absurd ends'
    read_told (stepped answer) ends' = absurd ends'
    read_told (kept standing) ends' = absurd ends'

    pub link_sees : LinkSees c text reply
    link_sees =
        read_told reply
        (read_ends (after_seen seen) c.below reply link seen.rest (is_held (part_of Reads (reading_of text)) (is_part Reads (reading_of text)) link names seen)
        (acted (after_seen seen) c.below reply seen.rest 0 wants.Text (steps.ReadLink link.number) (link.number ∷ [])
        (happens_after (part_of Reads (reading_of text)) (is_part Reads (reading_of text)) link names seen) onward))

    pub link_stays : is_release c.op ≡ false → HandlesAfter c reply
    link_stays unreleased = tail_stays Reads (reading_of text) link names seen wants.Text (steps.ReadLink link.number) (read_leaves link.number) onward unreleased

  -- ---- a resolve

  -- the call is over, and its handle is the walk's
  pub opened_after : (goal : Goal) (path : Reading) (handle : Handle) (names : List (List ℕ)) (seen : SeenTo (along c goal path) handle names) → seen.rest ≡ []
      → HandlesAfter c (opened handle names)
  opened_after goal path handle names seen none = record {
    is_open = last handle.number ∙ one.is_open;
    fresh = one.fresh;
    others = λ k other. last k ∙ one.others k other;
  }
    where
      one : IsMore (begin_of (along c goal path)) a (begin_of (after_seen seen)) handle.number handle.node
      one = opened_one (along c goal path) handle names seen (is_bulk_of c goal path is)

      last : (k : ℕ) → held (call.end_of c) a k ≡ held (begin_of (after_seen seen)) a k
      last k = ap (λ (s : State). held s a k) (sym (ends_there (along c goal path) (is_bulk_of c goal path is) handle names seen))
          ∙ nothing_more others_handles_stay a seen.later (begin_of (after_seen seen)) (seen.own_later ∙ ap (events_of a) none) k

  module _ (goal : Goal) (text : List ℕ) (fine : IsPath text) (handle : Handle) (names : List (List ℕ)) (seen : SeenTo (part_of (Opens goal) (reading_of text)) handle names)
      (onward : LeadsTo c.below (ends (opened handle names)) seen.rest (ends reply)) where
    pub resolve_sees : ResolveSees c goal text reply
    resolve_sees = subst (ResolveSees c goal text) (at_its_end c.below (opened handle names) reply seen.rest onward) (fine, seen)

    pub resolve_opens : HandlesAfter c reply
    resolve_opens = subst (HandlesAfter c) (at_its_end c.below (opened handle names) reply seen.rest onward)
        (opened_after goal (reading_of text) handle names seen (no_lines c.below (opened handle names) reply seen.rest onward))

  -- ---- the walk

  past_at : (aim : Aim) (room : Bool) → ((handle : Handle) (names : List (List ℕ)) → IsPastTurn (walked c.below room aim (walk.found handle names)))
      → (at : walk.Turn) → HasEnded (walk.under_way at) → IsPastTurn (walked c.below room aim at)
  past_at aim room past (walk.more w) over = absurd over
  past_at aim room past (walk.found handle names) over = past handle names
  past_at aim room past (walk.partial handle names rest) over = tt
  past_at aim room past (walk.failed error) over = closes_past (held_by aim) (gives (fault error))

  abbrev Finds : Aim → Reading → Type 0
  Finds aim path = (handle : Handle) (names : List (List ℕ)) (seen : SeenTo (part_of aim path) handle names)
      → LeadsTo c.below (walked c.below true aim (walk.found handle names)) seen.rest (ends reply) → Sees c c.op reply × HandlesAfter c reply

  module _ (aim : Aim) (path : Reading) (past : (room : Bool) (handle : Handle) (names : List (List ℕ)) → IsPastTurn (walked c.below room aim (walk.found handle names)))
      (finds : Finds aim path) (told : List Line) where
    abbrev WalkParts : Type 0
    WalkParts = Parts c.below (way_of c.below aim) (λ room. walked c.below room aim) (λ w. walking w aim) (aimed_walk c.below aim) true
        (walk.begins (way_of c.below aim) path) told c.lines (ends reply)

    module _ (p : WalkParts) where
      rest_same : p.rest ≡ p.rest_was
      rest_same = past_is_told c.below (walked c.below p.room_there aim p.at) p.rest p.rest_was (past_at aim p.room_there (past p.room_there) p.at p.over) p.are

      found_onward : (handle : Handle) (names : List (List ℕ)) → p.at ≡ walk.found handle names → p.room_there ≡ true
          → LeadsTo c.below (walked c.below true aim (walk.found handle names)) p.rest_was (ends reply)
      found_onward handle names at room =
          subst (λ ls. LeadsTo c.below (walked c.below true aim (walk.found handle names)) ls (ends reply)) rest_same
          (subst (λ t. LeadsTo c.below (walked c.below true aim t) p.rest (ends reply)) at
          (subst (λ b. LeadsTo c.below (walked c.below b aim p.at) p.rest (ends reply)) room p.onward))

      by_how : How (way_of c.below aim) (walk.begins (way_of c.below aim) path) p.at p.room_there p.first p.first_was → Outcome c told reply
      by_how (by_steps e) = all_told (same_lines told c.lines p.first p.first_was p.rest p.rest_was p.whole p.whole_was e rest_same)
      by_how (by_kernel front handle names others at led told_so was_so room) =
          let tells = finds handle names
          (seen_by_kernel (part_of aim path) (is_part aim path) p.first_was p.rest_was p.whole_was handle names p.first front others
          (subst (λ t. walk.LeadsTo (way_of c.below aim) (walk.begins (way_of c.below aim) path) p.first t) at p.led) led was_so)
          (found_onward handle names at room) in
          some_seen tells.0 tells.1
          (λ own. same_lines told c.lines p.first p.first_was p.rest p.rest_was p.whole p.whole_was
          (told_alone (part_of aim path) (is_part aim path) p.first_was p.rest_was p.whole_was p.first front handle names others led told_so was_so own) rest_same)

    pub one_walk : LeadsTo c.below (walks c.below aim path) told (ends reply) → AreTold c.below (walks c.below aim path) told c.lines → Outcome c told reply
    one_walk leads are =
        let p = parts_of c.below (way_of c.below aim) (λ room. walked c.below room aim) (λ w. walking w aim) (aimed_walk c.below aim) true
        (walk.begins (way_of c.below aim) path) told c.lines (ends reply) tt leads are in
        by_how p p.how
