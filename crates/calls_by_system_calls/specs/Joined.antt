-- A call tells what root_ops says, in a history of the tree that Linux had meanwhile.
use Rattle.std.specs.Prelude.{◌≡◌, ◌<◌, ℕ, ◌+◌, ◌==◌, List, [], ◌∷◌, Bool, if◌then◌else◌, true, length, Some, None}
use Rattle.tree_model.specs.declared.answer.Event.{Event}
use Rattle.tree_model.specs.State.{is_dir}
use Rattle.tree_model.specs.Steps.{held, held_count}
use Rattle.step_resolver.specs.Order.{Line}
use Rattle.root_ops.specs.declared.below.Below.{Below}
use Rattle.root_ops.specs.declared.call.CallTurn.{CallTurn}
use Rattle.root_ops.specs.declared.op.Op.{Op}
use Rattle.root_ops.specs.declared.reply.Reply.{Reply}
use Rattle.root_ops.specs.Blind.{renumbered}
use Rattle.root_ops.specs.CallHistory.{CallInHistory, IsCallInHistory}
use Rattle.root_ops.specs.EachCall.{CallTells}
use Rattle.root_ops.specs.Renumbered.{Numbering, told_by}
use Rattle.calls_by_system_calls.specs.Conversations.{Exchange, Begins, Conversation, lines_of}
use Rattle.calls_by_system_calls.specs.Linux.{Linux, state_at, IsLinux}
use Rattle.calls_by_system_calls.specs.Lines.{Descriptors, AllDiffer, AreMade, numbers_opened}
use Rattle.calls_by_system_calls.specs.Window.{IsWindow}

-- ---- what is supposed

-- the root's is the first of the program's descriptors that the call uses
abbrev pub descriptors_before : Linux → ℕ → ℕ → Descriptors
descriptors_before x handle node = record {
  count = held_count x.opening 0;
  on = λ h. if h == handle then Some node else None;
}

-- Linux meanwhile, and the lines of a call made in it, by how many system calls each. The program is the actor 0. Its
-- root's handle, which has this number among everybody's, is open on the node, a directory. No number is given to two
-- handles. There are never 2^48 handles (the model's limit).
pub record LinesAreMade (x : Linux) (below : Below) (nodes : ℕ → ℕ) (root node : ℕ) (lines : List Line)
    (counts : List ℕ) : Type 0 where
  pub linux : IsLinux x 0
  pub program : below.root.owner.actor ≡ 0
  pub held : held x.opening 0 root ≡ Some node
  pub directory : is_dir x.opening.nodes node ≡ true
  pub made : AreMade x nodes 0 (descriptors_before x below.root.handle node) lines counts
  pub differ : AllDiffer (below.root.handle ∷ numbers_opened lines)
  pub few : (n : ℕ) → length (state_at x n).handles + length lines < 281474976710656

-- ---- what it comes to

-- the call with these lines in the history with this window
abbrev pub call_in : Linux → Below → Op → Bool → ℕ → List Line → List Event → CallInHistory
call_in x below op room node lines window = record {
  opening = x.opening;
  before = [];
  window = window;
  below = below;
  root = node;
  room = room;
  op = op;
  lines = lines;
}

-- There is a history that begins with the tree as the call did: its window is what others did, with the lines' events
-- among it, each at a moment of its own system calls. There the call has the history's numbers of handles and nodes.
pub record HasHistory (x : Linux) (below : Below) (op : Op) (room : Bool) (nodes : ℕ → ℕ) (root node : ℕ)
    (lines : List Line) (counts : List ℕ) : Type 0 where
  pub f : Numbering
  pub by_nodes : f.node ≡ nodes
  pub by_root : f.handle below.root.handle ≡ root
  pub window : List Event
  pub is_window : IsWindow x f 0 x.opening lines counts window
  pub is_call : IsCallInHistory (renumbered f (call_in x below op room node lines window))

-- In it the call tells what each call of root_ops tells.
abbrev pub TellsInHistory : Linux → Below → Op → Bool → (ℕ → ℕ) → ℕ → ℕ → List Line → List ℕ → Reply → Type 0
TellsInHistory x below op room nodes root node lines counts reply =
    (history : HasHistory x below op room nodes root node lines counts)
    × CallTells (renumbered history.f (call_in x below op room node lines history.window)) (told_by history.f reply)

-- So it is of each call, from what the contracts of `Call::start`, `take` and `pass` say alone.
abbrev pub CallsTellBySystemCalls : Type 0
CallsTellBySystemCalls = (below : Below) (op : Op) (turn : CallTurn) (exchanges : List Exchange) (reply : Reply)
    → (begins : Begins below op turn) → (is : Conversation turn exchanges reply)
    → (x : Linux) (nodes : ℕ → ℕ) (root node : ℕ) (counts : List ℕ)
    → LinesAreMade x below nodes root node (lines_of turn exchanges reply is) counts
    → TellsInHistory x below op begins.0.0 nodes root node (lines_of turn exchanges reply is) counts reply

-- Any lines that are made so have a history.
abbrev pub LinesHaveHistories : Type 0
LinesHaveHistories = (x : Linux) (below : Below) (op : Op) (room : Bool) (nodes : ℕ → ℕ) (root node : ℕ)
    (lines : List Line) (counts : List ℕ) → LinesAreMade x below nodes root node lines counts
    → HasHistory x below op room nodes root node lines counts
