-- One call of MkdirAll where nobody else acts, computed: below /c the path `a/x/y`, of which `a` is there. mkdir(2).
use Rattle.std.specs.Prelude.{◌≡◌, ℕ, List, [], ◌∷◌, ◌++◌, codes}
use Rattle.path_text.specs.declared.errno.Errno.TheVariants.{NotFound}
use Rattle.path_text.specs.Text.{reading_of}
use Rattle.tree_model.specs.declared.answer.Answer.TheVariants.{Opened, Names, Done, Refused}
use Rattle.tree_model.specs.declared.inode.Inode.{Inode}
use Rattle.tree_model.specs.declared.inode.Object.TheVariants.{Dir}
use Rattle.tree_model.specs.declared.step.Kind.TheVariants as kind
use Rattle.tree_model.specs.declared.step.StepOf.TheVariants.{Open, NameBelow, Close, MakeDir}
use Rattle.tree_model.specs.BaseTree.{base_nodes, base_opened, standing}
use Rattle.walk_plan.specs.declared.goal.Goal.TheVariants.{Deepest}
use Rattle.step_resolver.specs.Order.{Line, answered, events_of}
use Rattle.step_resolver.specs.FootprintLaws.{IsQuiet}
use Rattle.step_resolver.specs.WalkHistory.{WalkInHistory, IsWalkInHistory, end_of}
use Rattle.step_resolver.specs.WorkedPaths.{ROOT, plain}
use Rattle.bulk_ops.specs.MakeAllOrder.{MakeTurn, made, begins, LeadsTo}
use Rattle.bulk_ops.specs.MakeAllQuiet.{gives, IsMeantEnd}
use Rattle.bulk_ops.specs.MakeAllWorked.{meant}

-- who calls
abbrev pub CALLER : ℕ
CALLER = 7

-- `a` is walked to, and `x` is missing there; then each name is made, opened and gone into, and the last place is
-- asked
abbrev pub make_lines : List Line
make_lines =
    answered (Open 0 (codes "a")) (Opened 1 2 kind.Dir)
    ∷ answered (Open 1 (codes "x")) (Refused NotFound)
    ∷ answered (NameBelow 0 1) (Names (codes "a" ∷ []))
    ∷ answered (MakeDir 1 (codes "x")) Done
    ∷ answered (Open 1 (codes "x")) (Opened 2 11 kind.Dir)
    ∷ answered (Close 1) Done
    ∷ answered (MakeDir 2 (codes "y")) Done
    ∷ answered (Open 2 (codes "y")) (Opened 3 12 kind.Dir)
    ∷ answered (Close 2) Done
    ∷ answered (NameBelow 0 3) (Names (codes "a" ∷ codes "x" ∷ codes "y" ∷ []))
    ∷ []

abbrev pub make_call : WalkInHistory
make_call = record {
  opening = base_opened CALLER (ROOT ∷ []);
  before = [];
  window = events_of CALLER make_lines;
  actor = CALLER;
  way = record { root = 0; goal = Deepest; flags = plain };
  root = ROOT;
  path = reading_of (codes "a/x/y");
  lines = make_lines;
}

abbrev pub make_end : MakeTurn
make_end = made (record { number = 3; node = 12; kind = kind.Dir }) (codes "y" ∷ codes "x" ∷ codes "a" ∷ [])

abbrev pub chain_made : List Inode
chain_made = base_nodes ++ standing Dir 2 (codes "x") ∷ standing Dir 11 (codes "y") ∷ []

-- It is a call in a legal history in which nobody else acts, and its lines lead to this end, which is what its path
-- means.
pub record MakeIsWorked : Type 0 where
  pub called : IsWalkInHistory make_call
  pub led : LeadsTo make_call.way (begins make_call.way make_call.path) make_lines make_end
  pub quiet : IsQuiet make_call
  pub means : meant (codes "a/x/y") ≡ gives 12 chain_made
  pub nodes : (end_of make_call).nodes ≡ chain_made
  pub comes : IsMeantEnd base_nodes (end_of make_call).nodes ROOT (meant (codes "a/x/y")) make_end
