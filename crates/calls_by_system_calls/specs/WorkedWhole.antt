-- One race with a whole call, computed: a directory is made at a/b/new below /c of the base tree. openat2(2) of a/b
-- opens /c/a/b. Another moves /c/a to /secret/a before mkdirat(2). So what is supposed of a whole call can be met.
use Rattle.std.specs.Prelude.{◌≡◌, ℕ, List, [], ◌∷◌, ◌++◌, ◌==◌, true, false, if◌then◌else◌, Some, None, codes}
use Rattle.system_calls.specs.OpenFlags.{x86_64}
use Rattle.tree_model.specs.declared.answer.Answer.TheVariants.{Opened, Names, Done}
use Rattle.tree_model.specs.declared.step.Kind.TheVariants as kind
use Rattle.tree_model.specs.declared.step.StepOf.TheVariants.{Open, NameBelow, Close, MakeDir}
use Rattle.tree_model.specs.State.{child, names_below}
use Rattle.dialogue.specs.Dialogue.{Exchange, SystemCall, closes, look_up, makes_directory}
use Rattle.step_resolver.specs.Order.{Line, answered, events_of}
use Rattle.root_ops.specs.declared.op.Op.TheVariants.{CreateDir}
use Rattle.root_ops.specs.declared.reply.Reply.TheVariants as replies
use Rattle.root_ops.specs.CallHistory.{CallInHistory, IsCallInHistory, end_of}
use Rattle.root_ops.specs.Order.{change_step}
use Rattle.calls_by_system_calls.specs.SystemCalls.{Descriptors}
use Rattle.calls_by_system_calls.specs.WholeCalls.{EntryCall, HasLines, RepliesBy}
use Rattle.calls_by_system_calls.specs.WorkedRace.{move, race_below, race_opening}

-- the root's descriptor is 3, and openat2(2) gives 7; in the history these are the handles 0 and 4
abbrev pub whole_numbers : Descriptors
whole_numbers = record { root = 3; handle = λ fd. if fd == 7 then 4 else 0; machine = x86_64 0 }

-- what it gives, without error
abbrev pub exchange_of : SystemCall → ℕ → Exchange
exchange_of asked value = record {
  asked = asked;
  answer = record {
    file_system = 0;
    flags = 0;
    device = 0;
    inode = 0;
    mount = 0;
    node = 0;
    value = value;
    error = 0;
    links = 0;
    mode = 0;
    has_mount = false;
  };
}

-- O_PATH and O_DIRECTORY; RESOLVE_IN_ROOT and RESOLVE_NO_MAGICLINKS
abbrev pub whole_exchanges : List Exchange
whole_exchanges =
    exchange_of (look_up 3 (codes "a/b") 2162688 18) 7
    ∷ exchange_of (makes_directory 7 (codes "new") 493) 0
    ∷ exchange_of (closes 7) 0
    ∷ []

abbrev pub before_move : List Line
before_move =
    answered (Open 0 (codes "a")) (Opened 3 2 kind.Dir)
    ∷ answered (Open 3 (codes "b")) (Opened 4 3 kind.Dir)
    ∷ answered (Close 3) Done
    ∷ answered (NameBelow 0 4) (Names (codes "a" ∷ codes "b" ∷ []))
    ∷ []

abbrev pub behind_move : List Line
behind_move = answered (MakeDir 4 (codes "new")) Done ∷ answered (Close 4) Done ∷ []

abbrev pub whole_call : CallInHistory
whole_call = record {
  opening = race_opening;
  before = [];
  window = events_of 0 before_move ++ move ∷ events_of 0 behind_move;
  below = race_below;
  root = 1;
  room = true;
  op = CreateDir (codes "a/b/new");
  lines = before_move ++ behind_move;
}

-- All that is supposed is met; and what is made is the node 11, which doesn't stand below the root.
pub record WholeMkdirIsMade : Type 0 where
  pub call : EntryCall race_below whole_numbers (CreateDir (codes "a/b/new"))
  pub made : call.exchanges ≡ whole_exchanges
  pub has : HasLines whole_call whole_numbers call.place.entry.above call.exchanges call.end
  pub replies : RepliesBy (change_step call.change 0 []) call.end.outcome replies.Done
  pub in_history : IsCallInHistory whole_call
  pub new : child (end_of whole_call).nodes 3 (codes "new") ≡ Some 11
  pub outside : names_below (end_of whole_call).nodes 1 11 ≡ None
