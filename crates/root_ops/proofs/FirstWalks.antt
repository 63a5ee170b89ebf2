-- The walk with which a call begins: its own lines are the first of the call's, and the headline holds of it.
use Rattle.std.proofs.Common.{◌≡◌, ℕ, Bool, true, List, [], ◌++◌, Option, None, Result, Ok, refl, sym, ap, ◌∙◌, subst, append-nil}
use Rattle.path_text.specs.declared.errno.Errno.{Errno}
use Rattle.path_text.specs.declared.path.Rule.{Rule}
use Rattle.path_text.specs.declared.path.Rule.TheVariants.{Drop, Refuse}
use Rattle.path_text.specs.declared.path.Split.{Split}
use Rattle.path_text.specs.Reading.{Reading}
use Rattle.path_text.specs.Split.{split_of}
use Rattle.path_text.specs.Text.{text_fault, reading_of}
use Rattle.tree_model.specs.declared.step.Mode.{Mode}
use Rattle.walk_plan.specs.declared.goal.Goal.{Goal}
use Rattle.walk_plan.specs.declared.goal.Goal.TheVariants.{Follow, NoFollow, Deepest}
use Rattle.step_resolver.specs.Footprint.{IsEnd}
use Rattle.step_resolver.specs.Order.{Way, Line}
use Rattle.step_resolver.specs.Order as walk
use Rattle.step_resolver.specs.View.{way_from}
use Rattle.bulk_ops.specs.MakeAllOrder as make
use Rattle.bulk_ops.specs.RemoveAllOrder as remove
use Rattle.bulk_ops.proofs.RemovingAll.Parts.{WalkEnd, goes_on, walk_fails, walk_finds, walk_stops, walk_end}
use Rattle.root_ops.specs.declared.aim.Aim.{Aim}
use Rattle.root_ops.specs.declared.aim.Aim.TheVariants.{Opens, Reads, Changes, WalksOn}
use Rattle.root_ops.specs.declared.aim.Change.{Change}
use Rattle.root_ops.specs.declared.aim.Change.TheVariants as changes
use Rattle.root_ops.specs.declared.op.Op.{Op}
use Rattle.root_ops.specs.declared.op.Op.TheVariants.{Resolve, ResolveNoFollow, ReadLink, CreateFile, CreateDir, CreateLink, RemoveFile, RemoveDir, Rename, MkdirAll, RemoveAll, Single, Release}
use Rattle.root_ops.specs.BulkTells.{bulk_of}
use Rattle.root_ops.specs.CallHistory.{CallInHistory, IsCallInHistory, RepliesWith}
use Rattle.root_ops.specs.EachCall.{IsDirectoryOf, HasName, WalksFirst, BeginsWithWalk}
use Rattle.root_ops.specs.Order.{Reply, ends, make_way, makes, removing_turn, clear_in, unless_fault, starts, goal_of, way_of, walked, walks, on_path, on_entry, in_directory, from_entry, between, renaming_of, LeadsTo}
use Rattle.step_machine.specs.Machine.{HasEnded}
use Rattle.step_machine.proofs.Split.{runs_split}
use Rattle.step_resolver.proofs.TurnsTell.{is_machine}
use Rattle.bulk_ops.proofs.Within.{walk_of_making}
use Rattle.root_ops.proofs.Bulk.{makes_led, clears_led}
use Rattle.root_ops.proofs.FirstTurn.{led_from}
use Rattle.bulk_ops.proofs.WalkParts.{walked_to}
use Rattle.root_ops.proofs.Handles.BulkHistory.{is_bulk_of}
use Rattle.root_ops.proofs.Handles.WalkParts.{walk_ends}

-- ---- the walk's own lines

-- the walk comes to an end by the first of these lines
record FirstLines (way : Way) (turn : walk.Turn) (lines : List Line) : Type 0 where
  pub first : List Line
  pub rest : List Line
  pub whole : lines ≡ first ++ rest
  pub end : walk.Turn
  pub over : IsEnd end
  pub leads : walk.LeadsTo way turn first end

-- a MkdirAll that has come to its end
abbrev IsMade : make.MakeTurn → Type 0
IsMade turn = HasEnded (make.under_way turn)

make_first : (way : Way) (turn : walk.Turn) (lines : List Line) (end : make.MakeTurn) → IsMade end → make.LeadsTo way (make.after_walk true turn) lines end → FirstLines way turn lines
make_first way turn lines end over leads =
    let split = runs_split (walk.walks way) (make.calls way) make.after_walk make.walking (is_machine way) (walk_of_making way) true turn lines end over leads in
    record { first = split.first; rest = split.rest; whole = split.joined; end = split.at; over = split.over; leads = split.led }

-- a RemoveAll that has come to its end
abbrev IsCleared : remove.Turn → Type 0
IsCleared turn = HasEnded (remove.under_way turn)

clear_first : (way : Way) (target : List ℕ) (turn : walk.Turn) (lines : List Line) (end : remove.Turn) → IsCleared end
    → WalkEnd way target turn lines end → FirstLines way turn lines
clear_first way target turn lines end over (goes_on call e) = absurd (subst IsCleared e over)
clear_first way target turn lines end over (walk_fails error leads e) =
    record { first = lines; rest = []; whole = sym (append-nil lines); end = walk.failed error; over = tt; leads = leads }
clear_first way target turn lines end over (walk_finds handle names cut') =
    record { first = cut'.walk_lines; rest = cut'.rest; whole = cut'.all; end = walk.found handle names; over = tt; leads = cut'.walks }
clear_first way target turn lines end over (walk_stops handle names parts cut') =
    record { first = cut'.walk_lines; rest = cut'.rest; whole = cut'.all; end = walk.partial handle names parts; over = tt; leads = cut'.walks }

-- ---- a call

module _ (c : CallInHistory) (reply : Reply) (is : IsCallInHistory c) (leads : RepliesWith c reply) where
  abbrev begins_with : (goal : Goal) (path : Reading) → FirstLines (way_from c.below.root goal c.below.flags) (walk.begins (way_from c.below.root goal c.below.flags) path) c.lines
      → BeginsWithWalk c (way_from c.below.root goal c.below.flags) path
  begins_with goal path of = record {
    end = of.end;
    over = of.over;
    walked = walked_to (bulk_of c (way_from c.below.root goal c.below.flags) path) (is_bulk_of c goal path is) of.first of.rest of.whole of.end of.leads;
  }

  -- ---- of a bulk call

  made_first : (text : List ℕ) → c.op ≡ MkdirAll text → c.room ≡ true → text_fault text ≡ None → BeginsWithWalk c (make_way c.below) (reading_of text)
  made_first text same room fine =
      let way = make_way c.below in
      let begun = make.begins way (reading_of text) in
      let by = makes_led c.below begun c.lines reply
      (led_from c reply (MkdirAll text) true (makes begun) leads same room (ap (λ (why : Option Errno). unless_fault why (makes begun)) fine)) in
      begins_with Deepest (reading_of text) (make_first way (walk.begins way (reading_of text)) c.lines by.end (made_too by.end by.is_reply) by.led)
    where
      made_too : (end : make.MakeTurn) → makes end ≡ ends reply → IsMade end
      made_too (make.more call) e = cc (e)
      made_too (make.made handle names) e = tt
      made_too (make.failed error) e = tt

  cleared_first : (text : List ℕ) (split : Split) → c.op ≡ RemoveAll text → c.room ≡ true → text_fault text ≡ None → split_of (reading_of text) Drop ≡ Ok split
      → BeginsWithWalk c (way_from c.below.root Follow c.below.flags) split.dir
  cleared_first text split same room fine at =
      let way = way_from c.below.root Follow c.below.flags in
      let begun = remove.begins way split.name split.dir in
      let by = clears_led c.below begun c.lines reply
      (led_from c reply (RemoveAll text) true (removing_turn begun) leads same room
      (ap (λ (why : Option Errno). unless_fault why (clear_in c.below (split_of (reading_of text) Drop))) fine ∙ ap (λ (s : Result Split Errno). clear_in c.below s) at)) in
      begins_with Follow split.dir (clear_first way split.name (walk.begins way split.dir) c.lines by.end (cleared_too by.end by.is_reply)
      (walk_end way split.name c.lines (walk.begins way split.dir) by.end by.led))
    where
      cleared_too : (end : remove.Turn) → removing_turn end ≡ ends reply → IsCleared end
      cleared_too (remove.more call) e = cc (e)
      cleared_too (remove.removed n) e = tt
      cleared_too (remove.failed error) e = tt

  -- ---- of each operation

  -- the walk with which it begins, and the call's lines after it
  pub record WalkLed (aim : Aim) (path : Reading) : Type 0 where
    pub begun : BeginsWithWalk c (way_from c.below.root (goal_of aim) c.below.flags) path
    pub room : Bool
    pub onward : LeadsTo c.below (walked c.below room aim begun.end) begun.walked.rest (ends reply)

  by_aim : (op : Op) (aim : Aim) (path : Reading) → c.op ≡ op → c.room ≡ true → starts c.below true op ≡ walks c.below aim path → WalkLed aim path
  by_aim op aim path same room first =
      let parts = walk_ends c.below aim reply c.lines true (walk.begins (way_of c.below aim) path) (led_from c reply op true (walks c.below aim path) leads same room first) in
      record {
        begun = begins_with (goal_of aim) path
            (record { first = parts.first; rest = parts.rest; whole = parts.whole; end = parts.end; over = parts.ended; leads = parts.leads });
        room = parts.room;
        onward = parts.onward;
      }

  -- an operation on a path, and one on an entry
  pub on_text : (op : Op) (aim : Aim) (text : List ℕ) → c.op ≡ op → c.room ≡ true → starts c.below true op ≡ on_path c.below aim text → text_fault text ≡ None
      → WalkLed aim (reading_of text)
  on_text op aim text same room first fine =
      by_aim op aim (reading_of text) same room (first ∙ ap (λ (why : Option Errno). unless_fault why (walks c.below aim (reading_of text))) fine)

  on_last : (op : Op) (rule : Rule) (change : Change) (text : List ℕ) (path : Reading) → c.op ≡ op → c.room ≡ true → starts c.below true op ≡ on_entry c.below rule change text
      → text_fault text ≡ None → IsDirectoryOf text rule path → BeginsWithWalk c (way_from c.below.root Follow c.below.flags) path
  on_last op rule change text path same room first fine of =
      subst (λ (p : Reading). BeginsWithWalk c (way_from c.below.root Follow c.below.flags) p) (sym of.1.1)
      ((by_aim op (Changes change of.0.name) of.0.dir same room
      (first ∙ ap (λ (why : Option Errno). unless_fault why (in_directory c.below change (split_of (reading_of text) rule))) fine ∙ ap (λ (s : Result Split Errno). in_directory c.below change s) of.1.0)).begun)

  on_both : (old new : List ℕ) (mode : Mode) (path : Reading) → c.op ≡ Rename old new mode → c.room ≡ true → text_fault old ≡ None → IsDirectoryOf old Drop path
      → text_fault new ≡ None → HasName new Drop → BeginsWithWalk c (way_from c.below.root Follow c.below.flags) path
  on_both old new mode path same room fine of fine_too has =
      subst (λ (p : Reading). BeginsWithWalk c (way_from c.below.root Follow c.below.flags) p) (sym of.1.1)
      ((by_aim (Rename old new mode) (WalksOn has.0.dir (renaming_of of.0 has.0 mode)) of.0.dir same room
      (ap (λ (why : Option Errno). unless_fault why (from_entry c.below mode new (split_of (reading_of old) Drop))) fine
      ∙ ap (λ (s : Result Split Errno). from_entry c.below mode new s) of.1.0
      ∙ ap (λ (why : Option Errno). unless_fault why (between c.below mode of.0 (split_of (reading_of new) Drop))) fine_too
      ∙ ap (λ (s : Result Split Errno). between c.below mode of.0 s) has.1)).begun)

  abbrev Begins : Goal → Reading → Type 0
  Begins goal path = BeginsWithWalk c (way_from c.below.root goal c.below.flags) path

  by_goal : (goal g : Goal) (path : Reading) → goal ≡ g → Begins g path → Begins goal path
  by_goal goal g path same begins = subst (λ (x : Goal). Begins x path) (sym same) begins

  along : (goal g : Goal) (path p : Reading) → goal ≡ g → path ≡ p → Begins g p → Begins goal path
  along goal g path p same same_path begins = by_goal goal g path same (subst (Begins g) (sym same_path) begins)

  pub walks_first : (op : Op) (goal : Goal) (path : Reading) → c.op ≡ op → c.room ≡ true → WalksFirst op goal path → Begins goal path
  walks_first (Resolve text) goal path same room first = along goal Follow path (reading_of text) first.1.0 first.1.1 (on_text (Resolve text) (Opens Follow) text same room refl first.0).begun
  walks_first (ResolveNoFollow text) goal path same room first =
      along goal NoFollow path (reading_of text) first.1.0 first.1.1 (on_text (ResolveNoFollow text) (Opens NoFollow) text same room refl first.0).begun
  walks_first (ReadLink text) goal path same room first = along goal NoFollow path (reading_of text) first.1.0 first.1.1 (on_text (ReadLink text) Reads text same room refl first.0).begun
  walks_first (CreateFile text) goal path same room first = by_goal goal Follow path first.1.0 (on_last (CreateFile text) Refuse changes.MakeFile text path same room refl first.0 first.1.1)
  walks_first (CreateDir text) goal path same room first = by_goal goal Follow path first.1.0 (on_last (CreateDir text) Drop changes.MakeDir text path same room refl first.0 first.1.1)
  walks_first (CreateLink text target) goal path same room first =
      by_goal goal Follow path first.1.0 (on_last (CreateLink text target) Refuse (changes.MakeLink target) text path same room refl first.0 first.1.1)
  walks_first (RemoveFile text) goal path same room first = by_goal goal Follow path first.1.0 (on_last (RemoveFile text) Refuse changes.RemoveFile text path same room refl first.0 first.1.1)
  walks_first (RemoveDir text) goal path same room first = by_goal goal Follow path first.1.0 (on_last (RemoveDir text) Drop changes.RemoveDir text path same room refl first.0 first.1.1)
  walks_first (Rename old new mode) goal path same room first = by_goal goal Follow path first.1.0 (on_both old new mode path same room first.0 first.1.1.0 first.1.1.1.0 first.1.1.1.1)
  walks_first (MkdirAll text) goal path same room first = along goal Deepest path (reading_of text) first.1.0 first.1.1 (made_first text same room first.0)
  walks_first (RemoveAll text) goal path same room first =
      along goal Follow path first.1.1.0.dir first.1.0 first.1.1.1.1 (cleared_first text first.1.1.0 same room first.0 first.1.1.1.0)
  walks_first (Single step) goal path same room first = absurd first
  walks_first (Release standing) goal path same room first = absurd first
