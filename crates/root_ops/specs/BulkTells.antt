-- What a bulk call of a root tells, in every legal history: what bulk_ops's call with its lines tells. mkdir(2),
-- unlink(2), rmdir(2).
use Rattle.std.specs.Prelude.{◌≡◌, List, ℕ, true, None, Ok}
use Rattle.path_text.specs.declared.path.Rule.TheVariants.{Drop}
use Rattle.path_text.specs.declared.path.Split.{Split}
use Rattle.path_text.specs.Reading.{Reading}
use Rattle.path_text.specs.Split.{split_of}
use Rattle.path_text.specs.Text.{text_fault, reading_of}
use Rattle.walk_plan.specs.declared.goal.Goal.TheVariants.{Follow}
use Rattle.step_resolver.specs.Order.{Way}
use Rattle.step_resolver.specs.View.{way_from}
use Rattle.step_resolver.specs.WalkHistory.{WalkInHistory}
use Rattle.bulk_ops.specs.MakeAllOrder.{MakeTurn}
use Rattle.bulk_ops.specs.MakeAllTells.{MakeTells}
use Rattle.bulk_ops.specs.RemoveAllOrder.{Turn}
use Rattle.bulk_ops.specs.RemoveAllTells.{Tells}
use Rattle.root_ops.specs.declared.op.Op.TheVariants.{MkdirAll, RemoveAll}
use Rattle.root_ops.specs.CallHistory.{CallInHistory, IsCallInHistory, RepliesWith, actor_of}
use Rattle.root_ops.specs.Order.{Reply, ends, make_way, makes, removing_turn}

-- the same history, as that of a call of bulk_ops on this way along this path
abbrev pub bulk_of : CallInHistory → Way → Reading → WalkInHistory
bulk_of c way path = record {
  opening = c.opening;
  before = c.before;
  window = c.window;
  actor = actor_of c;
  way = way;
  root = c.root;
  path = path;
  lines = c.lines;
}

-- the end of a MkdirAll that is this reply, and tells of the history
pub record MakeEnds (c : CallInHistory) (path : Reading) (reply : Reply) : Type 0 where
  pub end : MakeTurn
  pub is_reply : makes end ≡ ends reply
  pub tells : MakeTells (bulk_of c (make_way c.below) path) end

-- the same of a RemoveAll
pub record ClearEnds (c : CallInHistory) (split : Split) (reply : Reply) : Type 0 where
  pub end : Turn
  pub is_reply : removing_turn end ≡ ends reply
  pub tells : Tells (bulk_of c (way_from c.below.root Follow c.below.flags) split.dir) split.name end

-- Where the text has no fault, and its split none, and the first turn had memory, the reply is the end of a call of
-- bulk_ops, which tells of this history what its laws say: which entries were made or taken away, and why it failed,
-- whoever acts in between.
pub record BulkCallsTell : Type 0 where
  pub made : (c : CallInHistory) (reply : Reply) (text : List ℕ) → IsCallInHistory c → RepliesWith c reply
      → c.op ≡ MkdirAll text → c.room ≡ true → text_fault text ≡ None
      → MakeEnds c (reading_of text) reply
  pub cleared : (c : CallInHistory) (reply : Reply) (text : List ℕ) (split : Split) → IsCallInHistory c
      → RepliesWith c reply → c.op ≡ RemoveAll text → c.room ≡ true
      → text_fault text ≡ None → split_of (reading_of text) Drop ≡ Ok split → ClearEnds c split reply
