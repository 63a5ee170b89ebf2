-- A bulk call in a history is one of bulk_ops, which tells of it.
use Rattle.std.proofs.Common.{◌≡◌, ℕ, List, true, Option, None, Result, Ok, refl, ap, ◌∙◌}
use Rattle.path_text.specs.declared.errno.Errno.{Errno}
use Rattle.path_text.specs.declared.path.Rule.TheVariants.{Drop}
use Rattle.path_text.specs.declared.path.Split.{Split}
use Rattle.path_text.specs.Reading.{Reading}
use Rattle.path_text.specs.Split.{split_of}
use Rattle.path_text.specs.Text.{text_fault, reading_of}
use Rattle.walk_plan.specs.declared.goal.Goal.{Goal}
use Rattle.walk_plan.specs.declared.goal.Goal.TheVariants.{Follow, Deepest}
use Rattle.step_resolver.specs.View.{way_from}
use Rattle.step_resolver.specs.WalkHistory.{IsWalkInHistory}
use Rattle.bulk_ops.specs.MakeAllOrder as make
use Rattle.bulk_ops.specs.RemoveAllOrder as remove
use Rattle.bulk_ops.proofs.MakeAllEnds.{makes_tell}
use Rattle.bulk_ops.proofs.RemovingAll.EachEnd.{every_call_tells}
use Rattle.root_ops.specs.declared.op.Op.TheVariants.{MkdirAll, RemoveAll}
use Rattle.root_ops.specs.BulkTells.{bulk_of, MakeEnds, ClearEnds, BulkCallsTell}
use Rattle.root_ops.specs.CallHistory.{CallInHistory, IsCallInHistory, RepliesWith}
use Rattle.root_ops.specs.Order.{Reply, make_way, makes, removing_turn, clear_in, unless_fault}
use Rattle.root_ops.proofs.Bulk.{makes_led, clears_led}
use Rattle.root_ops.proofs.FirstTurn.{led_from}

pub is_bulk_of : (c : CallInHistory) (goal : Goal) (path : Reading) → IsCallInHistory c → IsWalkInHistory (bulk_of c (way_from c.below.root goal c.below.flags) path)
is_bulk_of c goal path is = record {
  tree = is.tree;
  legal_before = is.legal_before;
  legal = is.legal;
  own = is.own;
  root = is.root;
  root_is_dir = is.root_is_dir;
}

makes_so : (c : CallInHistory) (reply : Reply) (text : List ℕ) → IsCallInHistory c → RepliesWith c reply → c.op ≡ MkdirAll text → c.room ≡ true → text_fault text ≡ None → MakeEnds c (reading_of text) reply
makes_so c reply text is leads same room fine =
    let begun = make.begins (make_way c.below) (reading_of text) in
    let by = makes_led c.below begun c.lines reply (led_from c reply (MkdirAll text) true (makes begun) leads same room (ap (λ (why : Option Errno). unless_fault why (makes begun)) fine)) in
    record { end = by.end; is_reply = by.is_reply; tells = makes_tell (bulk_of c (make_way c.below) (reading_of text)) by.end (is_bulk_of c Deepest (reading_of text) is) by.led }

clears_so : (c : CallInHistory) (reply : Reply) (text : List ℕ) (split : Split) → IsCallInHistory c → RepliesWith c reply → c.op ≡ RemoveAll text → c.room ≡ true → text_fault text ≡ None
    → split_of (reading_of text) Drop ≡ Ok split → ClearEnds c split reply
clears_so c reply text split is leads same room fine at =
    let way = way_from c.below.root Follow c.below.flags in
    let begun = remove.begins way split.name split.dir in
    let by = clears_led c.below begun c.lines reply (led_from c reply (RemoveAll text) true (removing_turn begun) leads same room
    (ap (λ (why : Option Errno). unless_fault why (clear_in c.below (split_of (reading_of text) Drop))) fine ∙ ap (λ (s : Result Split Errno). clear_in c.below s) at)) in
    record { end = by.end; is_reply = by.is_reply; tells = every_call_tells (bulk_of c way split.dir) split.name by.end (is_bulk_of c Follow split.dir is) refl by.led }

pub bulk_calls_tell : BulkCallsTell
bulk_calls_tell = record { made = makes_so; cleared = clears_so }
