-- What each operation tells of the step after its walks.
use Rattle.std.specs.Prelude.{◌≡◌, ◌⊎◌, ℕ, ◌≤◌, List, [], ◌∷◌, length, Bool, true, false, if◌then◌else◌, Option, Some, None, Result, Ok, Err, refl}
use Rattle.std.proofs.Common.{sym, ap, subst, ◌∙◌, inl, inr, arith}
use Rattle.std.proofs.lemmas.Bool.{false≢true}
use Rattle.path_text.specs.declared.errno.Errno.{Errno}
use Rattle.path_text.specs.declared.errno.Errno.TheVariants.{NoMemory}
use Rattle.path_text.specs.declared.path.Rule.{Rule}
use Rattle.path_text.specs.declared.path.Rule.TheVariants.{Drop, Refuse}
use Rattle.path_text.specs.declared.path.Split.{Split}
use Rattle.path_text.specs.Reading.{Reading}
use Rattle.path_text.specs.Split.{split_of}
use Rattle.path_text.specs.Text.{text_fault, reading_of}
use Rattle.tree_model.specs.declared.step.Mode.{Mode}
use Rattle.tree_model.specs.declared.step.StepOf.TheVariants as steps
use Rattle.tree_model.specs.Steps.{held}
use Rattle.walk_plan.specs.declared.goal.Goal.TheVariants.{Follow}
use Rattle.step_resolver.specs.Failures.{TellsWant}
use Rattle.step_resolver.specs.Order.{Handle, found, failed}
use Rattle.step_resolver.specs.Order as walk
use Rattle.step_resolver.specs.View.{way_from}
use Rattle.step_resolver.specs.WalkHistory.{WalkInHistory, IsWalkInHistory, begin_of}
use Rattle.step_resolver.proofs.Underway.LegalHistory.{lived}
use Rattle.step_resolver.proofs.Ends.EveryWalk.{tree_laws}
use Rattle.root_ops.specs.declared.aim.Aim.{Aim}
use Rattle.root_ops.specs.declared.aim.Aim.TheVariants.{Reads, Changes, WalksOn, Renames}
use Rattle.root_ops.specs.declared.aim.Change.{Change}
use Rattle.root_ops.specs.declared.aim.Change.TheVariants as changes
use Rattle.root_ops.specs.declared.aim.Renaming.{Renaming}
use Rattle.root_ops.specs.declared.aim.Wanted.TheVariants as wants
use Rattle.root_ops.specs.declared.op.Op.{Op}
use Rattle.root_ops.specs.declared.op.Op.TheVariants.{Resolve, ResolveNoFollow, ReadLink, CreateFile, CreateDir, CreateLink, RemoveFile, RemoveDir, Rename, MkdirAll, RemoveAll, Single, Release}
use Rattle.root_ops.specs.Acts.{WalkedTo, after_walk, along, on_path as with_path, IsEntry, FindsDirectory, EntryTells, at_once, nameless, walk_fails, change_refused, in_want, FindsLink, ReadTells, read_at_once, read_walk_fails, read_refused, read_in_want, FindsBoth, RenameTells, rename_at_once, old_nameless, new_text, new_nameless, of_first, of_second, no_second, of_rename, ActTells, CallsAct}
use Rattle.root_ops.specs.CallHistory.{CallInHistory, IsCallInHistory, RepliesWith, IsPath}
use Rattle.root_ops.specs.Order.{Reply, link_text, done, fault, acting, more, ends, CallTurn, starts, lacks, goal_of, way_of, walked, walks, on_entry, in_directory, unless_fault, from_entry, between, renaming_of, walked_on, change_step, LeadsTo}
use Rattle.root_ops.specs.Order as call
use Rattle.root_ops.proofs.FirstSteps.{lines_few}
use Rattle.root_ops.proofs.FirstTurn.{led_from}
use Rattle.root_ops.proofs.Replies.{at_its_end, no_lines}
use Rattle.root_ops.proofs.Steps.{IsFewer}
use Rattle.root_ops.proofs.Handles.BulkHistory.{is_bulk_of}
use Rattle.root_ops.proofs.Handles.WalkParts.{IsEnded, WalkEnds, walk_ends}
use Rattle.root_ops.proofs.Acts.WalksAndRest.{walked_to, happens_after, one_more_held, is_held, stays_held, after_is}
use Rattle.root_ops.proofs.Acts.OwnStep.{all_leave, shut, ChangeEnds, change_ends, ReadEnds, read_ends, acted}
use Rattle.root_ops.proofs.Acts.Renames.{RenameEnds, rename_ends}

module _ (c : CallInHistory) (reply : Reply) (is : IsCallInHistory c) (leads : RepliesWith c reply) where
  -- ---- without a step

  ends_now : (op : Op) (room : Bool) (error : Errno) → c.op ≡ op → c.room ≡ room → starts c.below room op ≡ ends (fault error) → (fault error ≡ reply) × (c.lines ≡ [])
  ends_now op room error same with_room first =
      let led = led_from c reply op room (ends (fault error)) leads same with_room first in
      (at_its_end c.below (fault error) reply c.lines led, no_lines c.below (fault error) reply c.lines led)

  -- ---- the walk with which the call begins

  abbrev Walk : Aim → Reading → Type 0
  Walk aim path = WalkEnds c.below aim reply true (walk.begins (way_of c.below aim) path) c.lines

  abbrev part_of : Aim → Reading → WalkInHistory
  part_of aim path = along c (goal_of aim) path

  is_part : (aim : Aim) (path : Reading) → IsWalkInHistory (part_of aim path)
  is_part aim path = is_bulk_of c (goal_of aim) path is

  walk_of : (op : Op) (aim : Aim) (path : Reading) → c.op ≡ op → c.room ≡ true → starts c.below true op ≡ walks c.below aim path → Walk aim path
  walk_of op aim path same room first =
      walk_ends c.below aim reply c.lines true (walk.begins (way_of c.below aim) path) (led_from c reply op true (walks c.below aim path) leads same room first)

  -- ---- an operation on one entry

  module _ (rule : Rule) (change : Change) (text : List ℕ) where
    module _ (split : Split) (entry : IsEntry text rule split) (parts : Walk (Changes change split.name) split.dir) where
      abbrev aim : Aim
      aim = Changes change split.name

      abbrev entry_walked : (end : walk.Turn) → walk.LeadsTo (way_of c.below aim) (walk.begins (way_of c.below aim) split.dir) parts.first end → WalkedTo (part_of aim split.dir) end
      entry_walked end led = walked_to (part_of aim split.dir) (is_part aim split.dir) parts.first parts.rest parts.whole end led

      module _ (dir : Handle) (names : List (List ℕ)) (walked : WalkedTo (part_of aim split.dir) (found dir names)) (few : length walked.rest ≤ 5) where
        abbrev directory : FindsDirectory c text rule
        directory = record { split = split; entry = entry; dir = dir; names = names; walked = walked; few = few }

        change_told : (r : Reply) → ChangeEnds (after_walk walked) change dir split.name walked.rest r → EntryTells c rule change text r
        change_told done did = record { finds = directory; did = did }
        change_told (fault error) (inl refusal, leaves) = change_refused directory refusal leaves
        change_told (fault error) (inr want, leaves) = in_want directory want.0 want.1 leaves
        change_told other ends' = absurd ends'

        changed : LeadsTo c.below (more (acting wants.Done (change_step change dir.number split.name) (dir.number ∷ []))) walked.rest (ends reply) → EntryTells c rule change text reply
        changed onward =
            change_told reply
            (change_ends (after_walk walked) c.below reply change dir split.name walked.rest (is_held (part_of aim split.dir) (is_part aim split.dir) dir names walked)
            (acted (after_walk walked) c.below reply walked.rest 0 wants.Done (change_step change dir.number split.name) (dir.number ∷ [])
            (happens_after (part_of aim split.dir) (is_part aim split.dir) (found dir names) walked) onward))

      by_end : (end : walk.Turn) → IsEnded end → walk.LeadsTo (way_of c.below aim) (walk.begins (way_of c.below aim) split.dir) parts.first end
          → LeadsTo c.below (walked c.below parts.room aim end) parts.rest (ends reply) → EntryTells c rule change text reply
      by_end (walk.more w) over led onward = absurd over
      by_end (walk.found dir names) over led onward = changed dir names (entry_walked (found dir names) led) (lines_few c.below 5 parts.rest _ (ends reply) (omega arith) onward) onward
      by_end (walk.partial dir names rest) over led onward = absurd (false≢true (entry_walked (walk.partial dir names rest) led).headline.tells.goal)
      by_end (walk.failed error) over led onward =
          subst (EntryTells c rule change text) (at_its_end c.below (fault error) reply parts.rest onward)
          (walk_fails split entry (entry_walked (failed error) led) (no_lines c.below (fault error) reply parts.rest onward))

    module _ (op : Op) (same : c.op ≡ op) (begins : starts c.below true op ≡ on_entry c.below rule change text) (without : starts c.below false op ≡ lacks text) where
      by_split : (split : Result Split Errno) → split_of (reading_of text) rule ≡ split → text_fault text ≡ None → c.room ≡ true → EntryTells c rule change text reply
      by_split (Err error) cuts fine room =
          let over = ends_now op true error same room (begins ∙ ap (λ (why : Option Errno). unless_fault why (in_directory c.below change (split_of (reading_of text) rule))) fine
          ∙ ap (λ (s : Result Split Errno). in_directory c.below change s) cuts) in
          subst (EntryTells c rule change text) over.0 (nameless fine cuts over.1)
      by_split (Ok split) cuts fine room =
          let parts = walk_of op (Changes change split.name) split.dir same room (begins
          ∙ ap (λ (why : Option Errno). unless_fault why (in_directory c.below change (split_of (reading_of text) rule))) fine
          ∙ ap (λ (s : Result Split Errno). in_directory c.below change s) cuts) in
          by_end split (fine, cuts) parts parts.end parts.ended parts.leads parts.onward

      entry_tells : (why : Option Errno) (room : Bool) → text_fault text ≡ why → c.room ≡ room → EntryTells c rule change text reply
      entry_tells (Some error) true e room =
          let over = ends_now op true error same room (begins ∙ ap (λ (why : Option Errno). unless_fault why (in_directory c.below change (split_of (reading_of text) rule))) e) in
          subst (EntryTells c rule change text) over.0 (at_once (record { why = inl e; no_step = over.1 }))
      entry_tells (Some error) false e room =
          let over = ends_now op false error same room (without ∙ ap (λ (why : Option Errno). unless_fault why (ends (fault NoMemory))) e) in
          subst (EntryTells c rule change text) over.0 (at_once (record { why = inl e; no_step = over.1 }))
      entry_tells None false e room =
          let over = ends_now op false NoMemory same room (without ∙ ap (λ (why : Option Errno). unless_fault why (ends (fault NoMemory))) e) in
          subst (EntryTells c rule change text) over.0 (at_once (record { why = inr (room, refl); no_step = over.1 }))
      entry_tells None true e room = by_split (split_of (reading_of text) rule) refl e room

  -- ---- read link

  module _ (text : List ℕ) where
    module _ (fine : IsPath text) (parts : Walk Reads (reading_of text)) where
      abbrev read_walked : (end : walk.Turn) → walk.LeadsTo (way_of c.below Reads) (walk.begins (way_of c.below Reads) (reading_of text)) parts.first end
          → WalkedTo (part_of Reads (reading_of text)) end
      read_walked end led = walked_to (part_of Reads (reading_of text)) (is_part Reads (reading_of text)) parts.first parts.rest parts.whole end led

      module _ (link : Handle) (names : List (List ℕ)) (walked : WalkedTo (part_of Reads (reading_of text)) (found link names)) (few : length walked.rest ≤ 5) where
        abbrev object : FindsLink c text
        object = record { is_path = fine; link = link; names = names; walked = walked; few = few }

        read_told : (r : Reply) → ReadEnds (after_walk walked) link walked.rest r → ReadTells c text r
        read_told (link_text told) did = record { finds = object; did = did.0; leaves = did.1 }
        read_told (fault error) (inl refusal, leaves) = read_refused object refusal leaves
        read_told (fault error) (inr want, leaves) = read_in_want object want.0 want.1 leaves
        read_told other ends' = absurd ends'

        read_so : LeadsTo c.below (more (acting wants.Text (steps.ReadLink link.number) (link.number ∷ []))) walked.rest (ends reply) → ReadTells c text reply
        read_so onward =
            read_told reply
            (read_ends (after_walk walked) c.below reply link walked.rest (is_held (part_of Reads (reading_of text)) (is_part Reads (reading_of text)) link names walked)
            (acted (after_walk walked) c.below reply walked.rest 0 wants.Text (steps.ReadLink link.number) (link.number ∷ [])
            (happens_after (part_of Reads (reading_of text)) (is_part Reads (reading_of text)) (found link names) walked) onward))

      read_by_end : (end : walk.Turn) → IsEnded end → walk.LeadsTo (way_of c.below Reads) (walk.begins (way_of c.below Reads) (reading_of text)) parts.first end
          → LeadsTo c.below (walked c.below parts.room Reads end) parts.rest (ends reply) → ReadTells c text reply
      read_by_end (walk.more w) over led onward = absurd over
      read_by_end (walk.found link names) over led onward = read_so link names (read_walked (found link names) led) (lines_few c.below 5 parts.rest _ (ends reply) (omega arith) onward) onward
      read_by_end (walk.partial link names rest) over led onward = absurd (false≢true (read_walked (walk.partial link names rest) led).headline.tells.goal)
      read_by_end (walk.failed error) over led onward =
          subst (ReadTells c text) (at_its_end c.below (fault error) reply parts.rest onward)
          (read_walk_fails fine (read_walked (failed error) led) (no_lines c.below (fault error) reply parts.rest onward))

    read_tells : (why : Option Errno) (room : Bool) → c.op ≡ ReadLink text → text_fault text ≡ why → c.room ≡ room → ReadTells c text reply
    read_tells (Some error) true same e room =
        let over = ends_now (ReadLink text) true error same room (ap (λ (why : Option Errno). unless_fault why (walks c.below Reads (reading_of text))) e) in
        subst (ReadTells c text) over.0 (read_at_once (record { why = inl e; no_step = over.1 }))
    read_tells (Some error) false same e room =
        let over = ends_now (ReadLink text) false error same room (ap (λ (why : Option Errno). unless_fault why (ends (fault NoMemory))) e) in
        subst (ReadTells c text) over.0 (read_at_once (record { why = inl e; no_step = over.1 }))
    read_tells None false same e room =
        let over = ends_now (ReadLink text) false NoMemory same room (ap (λ (why : Option Errno). unless_fault why (ends (fault NoMemory))) e) in
        subst (ReadTells c text) over.0 (read_at_once (record { why = inr (room, refl); no_step = over.1 }))
    read_tells None true same e room =
        let parts = walk_of (ReadLink text) Reads (reading_of text) same room (ap (λ (why : Option Errno). unless_fault why (walks c.below Reads (reading_of text))) e) in
        read_by_end e parts parts.end parts.ended parts.leads parts.onward

  -- ---- rename

  module _ (old new : List ℕ) (mode : Mode) where
    abbrev RenameSo : Reply → Type 0
    RenameSo r = RenameTells c old new mode r

    module _ (from to : Split) (old_entry : IsEntry old Drop from) (new_entry : IsEntry new Drop to) where
      abbrev ren : Renaming
      ren = renaming_of from to mode

      abbrev first_part_of : WalkInHistory
      first_part_of = part_of (WalksOn to.dir ren) from.dir

      renames_few : (d e : ℕ) → IsFewer c.below 6 (call.renames d e ren)
      renames_few d e = by ren.slash
        where
          by : (b : Bool) → IsFewer c.below 6 (if b then more (call.checking d e ren) else more (acting wants.Done (call.rename_step ren d e) (e ∷ d ∷ [])))
          by true = omega arith
          by false = omega arith

      abbrev first_is : IsWalkInHistory first_part_of
      first_is = is_part (WalksOn to.dir ren) from.dir

      -- the old directory was found
      module _ (dir : Handle) (names : List (List ℕ)) (first : WalkedTo first_part_of (found dir names)) where
        abbrev second_part_of : WalkInHistory
        second_part_of = with_path to.dir (after_walk first)

        second_is : IsWalkInHistory second_part_of
        second_is =
            let after = after_is first_part_of first_is dir names first in
            record { tree = after.tree; legal_before = after.legal_before; legal = after.legal; own = after.own; root = after.root; root_is_dir = after.root_is_dir }

        dir_held : held (begin_of second_part_of) c.below.root.owner.actor dir.number ≡ Some dir.node
        dir_held = is_held first_part_of first_is dir names first

        -- and the new one
        module _ (other : Handle) (others : List (List ℕ)) (second : WalkedTo second_part_of (found other others)) (few : length second.rest ≤ 5) where
          abbrev both : FindsBoth c from to
          both = record { old = dir; old_names = names; first = first; new = other; new_names = others; second = second; one_more = one_more_held first_part_of first_is dir names first; two_more = one_more_held second_part_of second_is other others second; few = few }

          abbrev last_part : WalkInHistory
          last_part = after_walk second

          last_is : IsWalkInHistory last_part
          last_is = after_is second_part_of second_is other others second

          rename_told : (r : Reply) → RenameEnds last_part ren dir other r → RenameSo r
          rename_told done did = record { from = from; to = to; old_entry = old_entry; new_entry = new_entry; both = both; did = did }
          rename_told (fault error) why = of_rename from to old_entry new_entry both why.0 why.1
          rename_told other ends' = absurd ends'

          renamed : LeadsTo c.below (call.renames dir.number other.number ren) last_part.lines (ends reply) → RenameSo reply
          renamed onward =
              rename_told reply
              (rename_ends last_part (λ t. (lived tree_laws last_part last_is).states t) c.below reply ren dir other
              (stays_held second_part_of second_is other others second dir.number dir.node dir_held) (is_held second_part_of second_is other others second)
              (happens_after second_part_of second_is (found other others) second) onward)

        -- the second walk's end
        module _ (parts : WalkEnds c.below (Renames dir.number ren) reply true (walk.begins (way_of c.below (Renames dir.number ren)) to.dir) first.rest) where
          abbrev second_walked : (end : walk.Turn) → walk.LeadsTo (way_of c.below (Renames dir.number ren)) (walk.begins (way_of c.below (Renames dir.number ren)) to.dir) parts.first end
              → WalkedTo second_part_of end
          second_walked end led = walked_to second_part_of second_is parts.first parts.rest parts.whole end led

          by_second : (end : walk.Turn) → IsEnded end
              → walk.LeadsTo (way_of c.below (Renames dir.number ren)) (walk.begins (way_of c.below (Renames dir.number ren)) to.dir) parts.first end
              → LeadsTo c.below (walked c.below parts.room (Renames dir.number ren) end) parts.rest (ends reply) → RenameSo reply
          by_second (walk.more w) over led onward = absurd over
          by_second (walk.found other others) over led onward = renamed other others (second_walked (found other others) led)
              (lines_few c.below 5 parts.rest _ (ends reply) (renames_few dir.number other.number) onward) onward
          by_second (walk.partial other others rest) over led onward = absurd (false≢true (second_walked (walk.partial other others rest) led).headline.tells.goal)
          by_second (walk.failed error) over led onward =
              let second = second_walked (failed error) led in
              let over = shut (after_walk second) c.below reply parts.rest (dir.number ∷ []) (fault error) 0 (happens_after second_part_of second_is (failed error) second) onward in
              let few = lines_few c.below 1 parts.rest _ (ends reply) (omega arith) onward in
              subst RenameSo over.same (of_second from to old_entry new_entry dir names first second few (one_more_held first_part_of first_is dir names first) (all_leave (after_walk second) over.leaves))

        same_walked : (turn : walk.Turn) → walked_on dir.number ren turn ≡ walked c.below true (Renames dir.number ren) turn
        same_walked (walk.more w) = refl
        same_walked (walk.found handle others) = refl
        same_walked (walk.partial handle others rest) = refl
        same_walked (walk.failed error) = refl

        -- the second walk began with memory for its first turn
        with_memory : LeadsTo c.below (walked_on dir.number ren (walk.begins (way_from c.below.root Follow c.below.flags) to.dir)) first.rest (ends reply) → RenameSo reply
        with_memory onward =
            let begun = walk.begins (way_of c.below (Renames dir.number ren)) to.dir in
            let parts = walk_ends c.below (Renames dir.number ren) reply first.rest true begun
            (subst (λ (turn : CallTurn). LeadsTo c.below turn first.rest (ends reply)) (same_walked begun) onward) in
            by_second parts parts.end parts.ended parts.leads parts.onward

        -- or without
        no_memory : TellsWant NoMemory first.lines → LeadsTo c.below (walked_on dir.number ren (failed NoMemory)) first.rest (ends reply) → RenameSo reply
        no_memory met onward =
            let over = shut (after_walk first) c.below reply first.rest (dir.number ∷ []) (fault NoMemory) 0 (happens_after first_part_of first_is (found dir names) first) onward in
            subst RenameSo over.same (no_second from to old_entry new_entry dir names first met (all_leave (after_walk first) over.leaves))

        without_memory : TellsWant NoMemory first.lines → (begun : walk.Turn) → walk.begins (way_from c.below.root Follow c.below.flags) to.dir ≡ begun
            → LeadsTo c.below (walked_on dir.number ren (walk.for_walk false begun)) first.rest (ends reply) → RenameSo reply
        without_memory met (walk.more w) e onward = no_memory met onward
        without_memory met (walk.found handle others) e onward =
            with_memory (subst (λ (turn : walk.Turn). LeadsTo c.below (walked_on dir.number ren turn) first.rest (ends reply)) (sym e) onward)
        without_memory met (walk.partial handle others rest) e onward =
            with_memory (subst (λ (turn : walk.Turn). LeadsTo c.below (walked_on dir.number ren turn) first.rest (ends reply)) (sym e) onward)
        without_memory met (walk.failed error) e onward =
            with_memory (subst (λ (turn : walk.Turn). LeadsTo c.below (walked_on dir.number ren turn) first.rest (ends reply)) (sym e) onward)

        by_room : (room : Bool) → (room ≡ false → TellsWant NoMemory first.lines)
            → LeadsTo c.below (walked_on dir.number ren (walk.starts (way_from c.below.root Follow c.below.flags) room to.dir)) first.rest (ends reply) → RenameSo reply
        by_room true lacked onward = with_memory onward
        by_room false lacked onward = without_memory (lacked refl) (walk.begins (way_from c.below.root Follow c.below.flags) to.dir) refl onward

      -- the first walk's end
      module _ (parts : Walk (WalksOn to.dir ren) from.dir) where
        abbrev first_walked : (end : walk.Turn) → walk.LeadsTo (way_of c.below (WalksOn to.dir ren)) (walk.begins (way_of c.below (WalksOn to.dir ren)) from.dir) parts.first end
            → WalkedTo first_part_of end
        first_walked end led = walked_to first_part_of first_is parts.first parts.rest parts.whole end led

        met_by : (true ≡ false) ⊎ TellsWant NoMemory parts.first → TellsWant NoMemory parts.first
        met_by (inl e) = cc (e)
        met_by (inr met) = met

        by_first : (end : walk.Turn) → IsEnded end → walk.LeadsTo (way_of c.below (WalksOn to.dir ren)) (walk.begins (way_of c.below (WalksOn to.dir ren)) from.dir) parts.first end
            → LeadsTo c.below (walked c.below parts.room (WalksOn to.dir ren) end) parts.rest (ends reply) → RenameSo reply
        by_first (walk.more w) over led onward = absurd over
        by_first (walk.found dir names) over led onward = by_room dir names (first_walked (found dir names) led) parts.room (λ e. met_by (parts.lacked e)) onward
        by_first (walk.partial dir names rest) over led onward = absurd (false≢true (first_walked (walk.partial dir names rest) led).headline.tells.goal)
        by_first (walk.failed error) over led onward =
            subst RenameSo (at_its_end c.below (fault error) reply parts.rest onward)
            (of_first from to old_entry new_entry (first_walked (failed error) led) (no_lines c.below (fault error) reply parts.rest onward))

    module _ (same : c.op ≡ Rename old new mode) where
      abbrev begun : CallTurn
      begun = from_entry c.below mode new (split_of (reading_of old) Drop)

      from_begun : text_fault old ≡ None → starts c.below true (Rename old new mode) ≡ begun
      from_begun fine = ap (λ (why : Option Errno). unless_fault why begun) fine

      at_new : text_fault old ≡ None → (from : Split) → split_of (reading_of old) Drop ≡ Ok from
          → starts c.below true (Rename old new mode) ≡ unless_fault (text_fault new) (between c.below mode from (split_of (reading_of new) Drop))
      at_new fine from cuts = from_begun fine ∙ ap (λ (s : Result Split Errno). from_entry c.below mode new s) cuts

      at_both : text_fault old ≡ None → (from : Split) → split_of (reading_of old) Drop ≡ Ok from → text_fault new ≡ None
          → starts c.below true (Rename old new mode) ≡ between c.below mode from (split_of (reading_of new) Drop)
      at_both fine from cuts fine_too = at_new fine from cuts ∙ ap (λ (why : Option Errno). unless_fault why (between c.below mode from (split_of (reading_of new) Drop))) fine_too

      by_new_split : (split : Result Split Errno) → split_of (reading_of new) Drop ≡ split → (from : Split) → IsEntry old Drop from → IsPath new → c.room ≡ true → RenameSo reply
      by_new_split (Err error) cuts from entry fine_too room =
          let over = ends_now (Rename old new mode) true error same room
          (at_both entry.0 from entry.1 fine_too ∙ ap (λ (s : Result Split Errno). between c.below mode from s) cuts) in
          subst RenameSo over.0 (new_nameless from entry fine_too cuts over.1)
      by_new_split (Ok to) cuts from entry fine_too room =
          let parts = walk_of (Rename old new mode) (WalksOn to.dir (renaming_of from to mode)) from.dir same room
          (at_both entry.0 from entry.1 fine_too ∙ ap (λ (s : Result Split Errno). between c.below mode from s) cuts) in
          by_first from to entry (fine_too, cuts) parts parts.end parts.ended parts.leads parts.onward

      by_new_text : (why : Option Errno) → text_fault new ≡ why → (from : Split) → IsEntry old Drop from → c.room ≡ true → RenameSo reply
      by_new_text (Some error) e from entry room =
          let over = ends_now (Rename old new mode) true error same room
          (at_new entry.0 from entry.1 ∙ ap (λ (why : Option Errno). unless_fault why (between c.below mode from (split_of (reading_of new) Drop))) e) in
          subst RenameSo over.0 (new_text from entry e over.1)
      by_new_text None e from entry room = by_new_split (split_of (reading_of new) Drop) refl from entry e room

      by_old_split : (split : Result Split Errno) → split_of (reading_of old) Drop ≡ split → IsPath old → c.room ≡ true → RenameSo reply
      by_old_split (Err error) cuts fine room =
          let over = ends_now (Rename old new mode) true error same room (from_begun fine ∙ ap (λ (s : Result Split Errno). from_entry c.below mode new s) cuts) in
          subst RenameSo over.0 (old_nameless fine cuts over.1)
      by_old_split (Ok from) cuts fine room = by_new_text (text_fault new) refl from (fine, cuts) room

      rename_tells : (why : Option Errno) (room : Bool) → text_fault old ≡ why → c.room ≡ room → RenameSo reply
      rename_tells (Some error) true e room =
          let over = ends_now (Rename old new mode) true error same room (ap (λ (why : Option Errno). unless_fault why begun) e) in
          subst RenameSo over.0 (rename_at_once (record { why = inl e; no_step = over.1 }))
      rename_tells (Some error) false e room =
          let over = ends_now (Rename old new mode) false error same room (ap (λ (why : Option Errno). unless_fault why (ends (fault NoMemory))) e) in
          subst RenameSo over.0 (rename_at_once (record { why = inl e; no_step = over.1 }))
      rename_tells None false e room =
          let over = ends_now (Rename old new mode) false NoMemory same room (ap (λ (why : Option Errno). unless_fault why (ends (fault NoMemory))) e) in
          subst RenameSo over.0 (rename_at_once (record { why = inr (room, refl); no_step = over.1 }))
      rename_tells None true e room = by_old_split (split_of (reading_of old) Drop) refl e room

  -- ---- each operation

  act_tells : (op : Op) → c.op ≡ op → ActTells c op reply
  act_tells (Resolve text) same = tt
  act_tells (ResolveNoFollow text) same = tt
  act_tells (ReadLink text) same = read_tells text (text_fault text) c.room same refl refl
  act_tells (CreateFile text) same = entry_tells Refuse changes.MakeFile text (CreateFile text) same refl refl (text_fault text) c.room refl refl
  act_tells (CreateDir text) same = entry_tells Drop changes.MakeDir text (CreateDir text) same refl refl (text_fault text) c.room refl refl
  act_tells (CreateLink text target) same = entry_tells Refuse (changes.MakeLink target) text (CreateLink text target) same refl refl (text_fault text) c.room refl refl
  act_tells (RemoveFile text) same = entry_tells Refuse changes.RemoveFile text (RemoveFile text) same refl refl (text_fault text) c.room refl refl
  act_tells (RemoveDir text) same = entry_tells Drop changes.RemoveDir text (RemoveDir text) same refl refl (text_fault text) c.room refl refl
  act_tells (Rename old new mode) same = rename_tells old new mode same (text_fault old) c.room refl refl
  act_tells (MkdirAll text) same = tt
  act_tells (RemoveAll text) same = tt
  act_tells (Single step) same = tt
  act_tells (Release standing) same = tt

pub calls_act : CallsAct
calls_act c reply is leads = act_tells c reply is leads c.op refl
