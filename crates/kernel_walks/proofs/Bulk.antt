-- What comes of the bulk calls: a MkdirAll of a path that is there, and a RemoveAll.
use Rattle.std.specs.Prelude.{◌≡◌, ℕ, List, [], ◌∷◌, Bool, true, false, if◌then◌else◌, Option, Some, None, Result, Ok, Err, refl}
use Rattle.std.proofs.Common.{sym, ap, subst}
use Rattle.path_text.specs.declared.errno.Errno.{Errno}
use Rattle.path_text.specs.declared.errno.Errno.TheVariants.{NotDir}
use Rattle.path_text.specs.declared.path.Rule.TheVariants.{Drop}
use Rattle.path_text.specs.declared.path.Split.{Split}
use Rattle.path_text.specs.Split.{split_of}
use Rattle.path_text.specs.Text.{text_fault, reading_of}
use Rattle.walk_plan.specs.declared.goal.Goal.TheVariants.{Follow, Deepest}
use Rattle.step_machine.specs.Machine.{HasEnded}
use Rattle.step_resolver.specs.Asked.{AskedPart}
use Rattle.step_resolver.specs.Order.{Way, Handle, Line, answered, no_room, not_made, ending, is_dir_kind}
use Rattle.step_resolver.specs.Order as walk
use Rattle.step_resolver.specs.View.{way_from}
use Rattle.step_resolver.specs.WalkHistory.{WalkInHistory, IsWalkInHistory, begin_of, end_of}
use Rattle.bulk_ops.specs.MakeAllOrder as make
use Rattle.bulk_ops.specs.RemoveAllOrder as remove
use Rattle.bulk_ops.specs.declared.remove_all.clearing.TheConstants.{CLEARING_STEPS_MAX}
use Rattle.root_ops.specs.declared.op.Op.{Op}
use Rattle.root_ops.specs.declared.op.Op.TheVariants.{MkdirAll, RemoveAll}
use Rattle.root_ops.specs.Acts.{along, IsEntry}
use Rattle.root_ops.specs.CallHistory.{CallInHistory, IsCallInHistory, actor_of, IsPath, HandlesAfter}
use Rattle.root_ops.specs.CallHistory as call
use Rattle.root_ops.specs.Copies.{is_release}
use Rattle.root_ops.specs.Order.{Reply, opened, fault, gives, CallTurn, more, ends, making, removing, makes, removing_turn, make_way, make_missing, clear_in, clear_entry, unless_fault, LeadsTo}
use Rattle.root_ops.specs.Order as order
use Rattle.root_ops.proofs.Replies.{no_lines}
use Rattle.root_ops.proofs.Handles.AfterWalks.{tail_ends, closes_tail}
use Rattle.root_ops.proofs.Handles.BulkHistory.{is_bulk_of}
use Rattle.root_ops.proofs.Acts.OwnStep.{all_leave, shut}
use Rattle.kernel_walks.specs.SeenTo.{SeenTo, after_seen}
use Rattle.kernel_walks.specs.Tells.{SeesWhole, MakeAllSees, Sees}
use Rattle.kernel_walks.specs.Told.{AreTold}
use Rattle.kernel_walks.proofs.Clearing.{clears_so, seen_removes_none}
use Rattle.kernel_walks.proofs.Entries.{opened_after}
use Rattle.kernel_walks.proofs.Outcome.{Outcome, all_told, some_seen, same_lines, told_alone, handles_stay, held_then}
use Rattle.kernel_walks.proofs.Parts.{How, by_steps, by_kernel, Parts, parts_of, making_walk, removing_walk}
use Rattle.kernel_walks.proofs.Past.{IsPastTurn, make_goes_down, remove_due, past_is_told}
use Rattle.kernel_walks.proofs.SeenTo.{seen_by_kernel, happens_after, after_is, ends_there}

module _ (c : CallInHistory) (reply : Reply) (is : IsCallInHistory c) (told : List Line) where
  past_from : (turn : CallTurn) → IsPastTurn turn → LeadsTo c.below turn told (ends reply) → AreTold c.below turn told c.lines → Outcome c told reply
  past_from turn past leads are = all_told (past_is_told c.below turn told c.lines past are)

  -- ---- MkdirAll

  module _ (text : List ℕ) (same : c.op ≡ MkdirAll text) (fine : IsPath text) where
    abbrev make_part : WalkInHistory
    make_part = along c Deepest (reading_of text)

    make_is : IsWalkInHistory make_part
    make_is = is_bulk_of c Deepest (reading_of text) is

    module _ (handle : Handle) (names : List (List ℕ)) (seen : SeenTo make_part handle names) where
      abbrev whole : (hs : List ℕ) (r : Reply) → LeadsTo c.below (order.closes hs (gives r)) seen.rest (ends reply) → SeesWhole c text handle names
      whole hs r onward = record {
        is_path = fine;
        seen = seen;
        leaves = all_leave (after_seen seen) (shut (after_seen seen) c.below reply seen.rest hs r 0 (happens_after make_part make_is handle names seen) onward).leaves;
      }

      -- the one Close is that of each call that gives up
      closes_so : (lines : List Line) → LeadsTo c.below (makes (make.gives_up (handle.number ∷ []) NotDir)) lines (ends reply)
          → LeadsTo c.below (order.gives_up (handle.number ∷ []) NotDir) lines (ends reply)
      closes_so [] leads = cc (leads)
      closes_so (answered step answer ∷ lines) leads = (leads.0, leads.1)
      closes_so (no_room step answer ∷ lines) leads = (leads.0, leads.1)
      closes_so (not_made error ∷ lines) leads = (leads.0, leads.1)

      found_dir : is_dir_kind handle.kind ≡ true → LeadsTo c.below (ends (opened handle names)) seen.rest (ends reply) → MakeAllSees c text reply × HandlesAfter c reply
      found_dir dir onward =
          let over = shut (after_seen seen) c.below reply seen.rest [] (opened handle names) 0 (happens_after make_part make_is handle names seen) onward in
          subst (λ r. MakeAllSees c text r × HandlesAfter c r) over.same (
            (whole [] (opened handle names) onward, dir),
            opened_after c reply is Deepest (reading_of text) handle names seen (no_lines c.below (opened handle names) reply seen.rest onward),
          )

      found_other : is_dir_kind handle.kind ≡ false → LeadsTo c.below (order.gives_up (handle.number ∷ []) NotDir) seen.rest (ends reply)
          → MakeAllSees c text reply × HandlesAfter c reply
      found_other other onward =
          let over = shut (after_seen seen) c.below reply seen.rest (handle.number ∷ []) (fault NotDir) 0 (happens_after make_part make_is handle names seen) onward in (
            subst (MakeAllSees c text) over.same (refl, (handle, (names, (whole (handle.number ∷ []) (fault NotDir) onward, other)))),
            handles_stay c reply (end_of (after_seen seen)) (ap is_release same) (ends_there make_part make_is handle names seen)
                (tail_ends c.below (actor_of c) (call.begin_of c) seen.rest seen.later (begin_of (after_seen seen)) (order.gives_up (handle.number ∷ []) NotDir) reply
                (closes_tail c.below (actor_of c) (call.begin_of c) (begin_of (after_seen seen)) (handle.number ∷ []) (gives (fault NotDir)) tt
                (held_then make_part handle names seen make_is (call.begin_of c) [] (record { others = λ k out. refl; fresh = tt })))
                onward (after_is make_part make_is handle names seen).legal seen.own_later),
          )

      by_kind : (b : Bool) → is_dir_kind handle.kind ≡ b
          → LeadsTo c.below (makes (if b then make.made handle names else make.gives_up (handle.number ∷ []) NotDir)) seen.rest (ends reply)
          → MakeAllSees c text reply × HandlesAfter c reply
      by_kind true kind onward = found_dir kind onward
      by_kind false kind onward = found_other kind (closes_so seen.rest onward)

    kind_past : (handle : Handle) (names : List (List ℕ)) (b : Bool) → IsPastTurn (makes (if b then make.made handle names else make.gives_up (handle.number ∷ []) NotDir))
    kind_past handle names true = tt
    kind_past handle names false = tt

    begun_past : (room : Bool) (handle : Handle) (names : List (List ℕ)) (rest : List AskedPart) (why : Option Errno)
        → IsPastTurn (makes (make.begins_to_make room handle names rest why))
    begun_past room handle names rest (Some error) = tt
    begun_past true handle names rest None = make_goes_down handle names (make.rest_names rest)
    begun_past false handle names rest None = tt

    make_past_at : (room : Bool) (at : walk.Turn) → HasEnded (walk.under_way at) → IsPastTurn (makes (make.after_walk room at))
    make_past_at room (walk.more w) over = absurd over
    make_past_at room (walk.found handle names) over = kind_past handle names (is_dir_kind handle.kind)
    make_past_at room (walk.partial handle names rest) over = begun_past room handle names rest (make.rest_fault rest)
    make_past_at room (walk.failed error) over = tt

    abbrev MakeParts : Type 0
    MakeParts = Parts c.below (make_way c.below) (λ room turn. makes (make.after_walk room turn)) (λ w. making (make.walking w)) (making_walk c.below) true
        (walk.begins (make_way c.below) (reading_of text)) told c.lines (ends reply)

    module _ (p : MakeParts) where
      make_rest_same : p.rest ≡ p.rest_was
      make_rest_same = past_is_told c.below (makes (make.after_walk p.room_there p.at)) p.rest p.rest_was (make_past_at p.room_there p.at p.over) p.are

      make_how : How (make_way c.below) (walk.begins (make_way c.below) (reading_of text)) p.at p.room_there p.first p.first_was → Outcome c told reply
      make_how (by_steps e) = all_told (same_lines told c.lines p.first p.first_was p.rest p.rest_was p.whole p.whole_was e make_rest_same)
      make_how (by_kernel front handle names others at led told_so was_so room) =
          let tells = by_kind handle names
          (seen_by_kernel make_part make_is p.first_was p.rest_was p.whole_was handle names p.first front others
          (subst (λ t. walk.LeadsTo make_part.way (walk.begins make_part.way make_part.path) p.first t) at p.led) led was_so)
          (is_dir_kind handle.kind) refl
          (subst (λ ls. LeadsTo c.below (makes (make.after_walk p.room_there (walk.found handle names))) ls (ends reply)) make_rest_same
          (subst (λ t. LeadsTo c.below (makes (make.after_walk p.room_there t)) p.rest (ends reply)) at p.onward)) in
          some_seen (subst (λ (op : Op). Sees c op reply) (sym same) tells.0) tells.1
          (λ own. same_lines told c.lines p.first p.first_was p.rest p.rest_was p.whole p.whole_was
          (told_alone make_part make_is p.first_was p.rest_was p.whole_was p.first front handle names others led told_so was_so own) make_rest_same)

  makes_fine : (text : List ℕ) → c.op ≡ MkdirAll text → (why : Option Errno) → text_fault text ≡ why
      → LeadsTo c.below (unless_fault why (makes (make.begins (make_way c.below) (reading_of text)))) told (ends reply)
      → AreTold c.below (unless_fault why (makes (make.begins (make_way c.below) (reading_of text)))) told c.lines → Outcome c told reply
  makes_fine text same (Some error) e leads are = past_from (ends (fault error)) tt leads are
  makes_fine text same None e leads are =
      let p = parts_of c.below (make_way c.below) (λ room turn. makes (make.after_walk room turn)) (λ w. making (make.walking w)) (making_walk c.below) true
      (walk.begins (make_way c.below) (reading_of text)) told c.lines (ends reply) tt leads are in
      make_how text same e p p.how

  pub makes_from : (text : List ℕ) → c.op ≡ MkdirAll text → LeadsTo c.below (make_missing c.below text) told (ends reply)
      → AreTold c.below (make_missing c.below text) told c.lines → Outcome c told reply
  makes_from text same leads are = makes_fine text same (text_fault text) refl leads are

  -- ---- RemoveAll

  module _ (text : List ℕ) (same : c.op ≡ RemoveAll text) (split : Split) (entry : IsEntry text Drop split) where
    abbrev way : Way
    way = way_from c.below.root Follow c.below.flags

    abbrev clear_part : WalkInHistory
    clear_part = along c Follow split.dir

    clear_is : IsWalkInHistory clear_part
    clear_is = is_bulk_of c Follow split.dir is

    clear_past_at : (at : walk.Turn) → HasEnded (walk.under_way at) → IsPastTurn (removing_turn (remove.walked way split.name at))
    clear_past_at (walk.more w) over = absurd over
    clear_past_at (walk.found handle names) over =
        remove_due remove.removes_file (record { dir = handle.number; name = split.name; others = [] }) [] 0 CLEARING_STEPS_MAX
    clear_past_at (walk.partial handle names rest) over = tt
    clear_past_at (walk.failed error) over = tt

    abbrev ClearParts : Type 0
    ClearParts = Parts c.below way (λ room turn. removing_turn (remove.walked way split.name turn)) (λ w. removing (remove.walking way split.name w))
        (removing_walk c.below way split.name) true (walk.begins way split.dir) told c.lines (ends reply)

    module _ (p : ClearParts) where
      clear_rest_same : p.rest ≡ p.rest_was
      clear_rest_same = past_is_told c.below (removing_turn (remove.walked way split.name p.at)) p.rest p.rest_was (clear_past_at p.at p.over) p.are

      clear_how : How way (walk.begins way split.dir) p.at p.room_there p.first p.first_was → Outcome c told reply
      clear_how (by_steps e) = all_told (same_lines told c.lines p.first p.first_was p.rest p.rest_was p.whole p.whole_was e clear_rest_same)
      clear_how (by_kernel front handle names others at led told_so was_so room) =
          let tells = clears_so c reply is text split entry handle names
          (seen_by_kernel clear_part clear_is p.first_was p.rest_was p.whole_was handle names p.first front others
          (subst (λ t. walk.LeadsTo way (walk.begins way split.dir) p.first t) at p.led) led was_so)
          (subst (λ ls. LeadsTo c.below (removing_turn (remove.walked way split.name (walk.found handle names))) ls (ends reply)) clear_rest_same
          (subst (λ t. LeadsTo c.below (removing_turn (remove.walked way split.name t)) p.rest (ends reply)) at p.onward))
          (seen_removes_none way split.name c.lines p.first_was front p.rest_was handle names others (walk.begins way split.dir) led p.whole_was was_so) in
          some_seen (subst (λ (op : Op). Sees c op reply) (sym same) tells.0) tells.1
          (λ own. same_lines told c.lines p.first p.first_was p.rest p.rest_was p.whole p.whole_was
          (told_alone clear_part clear_is p.first_was p.rest_was p.whole_was p.first front handle names others led told_so was_so own) clear_rest_same)

  clears_split : (text : List ℕ) → c.op ≡ RemoveAll text → IsPath text → (split : Result Split Errno) → split_of (reading_of text) Drop ≡ split
      → LeadsTo c.below (clear_in c.below split) told (ends reply) → AreTold c.below (clear_in c.below split) told c.lines → Outcome c told reply
  clears_split text same fine (Err error) cuts leads are = past_from (ends (fault error)) tt leads are
  clears_split text same fine (Ok split) cuts leads are =
      let w = way_from c.below.root Follow c.below.flags in
      let p = parts_of c.below w (λ room turn. removing_turn (remove.walked w split.name turn)) (λ v. removing (remove.walking w split.name v))
      (removing_walk c.below w split.name) true (walk.begins w split.dir) told c.lines (ends reply) tt leads are in
      clear_how text same split (fine, cuts) p p.how

  clears_fine : (text : List ℕ) → c.op ≡ RemoveAll text → (why : Option Errno) → text_fault text ≡ why
      → LeadsTo c.below (unless_fault why (clear_in c.below (split_of (reading_of text) Drop))) told (ends reply)
      → AreTold c.below (unless_fault why (clear_in c.below (split_of (reading_of text) Drop))) told c.lines → Outcome c told reply
  clears_fine text same (Some error) e leads are = past_from (ends (fault error)) tt leads are
  clears_fine text same None e leads are = clears_split text same e (split_of (reading_of text) Drop) refl leads are

  pub clears_from : (text : List ℕ) → c.op ≡ RemoveAll text → LeadsTo c.below (clear_entry c.below text) told (ends reply)
      → AreTold c.below (clear_entry c.below text) told c.lines → Outcome c told reply
  clears_from text same leads are = clears_fine text same (text_fault text) refl leads are
