-- One call where nobody else acts, computed: below /c the directory `a/b/` is renamed to `d`. renameat2(2).
use Rattle.std.specs.Prelude.{◌≡◌, List, [], ◌∷◌, true, Some, codes}
use Rattle.tree_model.specs.declared.answer.Answer.TheVariants.{Opened, Names, Done}
use Rattle.tree_model.specs.declared.step.Kind.TheVariants as kind
use Rattle.tree_model.specs.declared.step.Mode.TheVariants.{Plain}
use Rattle.tree_model.specs.declared.step.StepOf.TheVariants.{Open, Dup, NameBelow, Close, Rename}
use Rattle.tree_model.specs.BaseTree.{base_nodes, base_opened}
use Rattle.tree_model.specs.State.{put_at}
use Rattle.step_resolver.specs.Order.{Line, answered, events_of}
use Rattle.step_resolver.specs.WorkedPaths.{ROOT}
use Rattle.root_ops.specs.declared.op.Op.TheVariants as ops
use Rattle.root_ops.specs.CallHistory.{CallInHistory, end_of, IsCallInHistory, RepliesWith}
use Rattle.root_ops.specs.Meaning.{op_means, is_done}
use Rattle.root_ops.specs.MeaningWorked.{CALLER, below_c, place}
use Rattle.root_ops.specs.Order.{done}
use Rattle.root_ops.specs.Quiet.{IsQuiet, ClosesWhatIsOpen, caller_of, ComesTo}

-- both directories are walked to and held; what is renamed is opened, since its path ends in a slash; and all is
-- closed again
abbrev pub rename_lines : List Line
rename_lines =
    answered (Open 0 (codes "a")) (Opened 1 2 kind.Dir)
    ∷ answered (NameBelow 0 1) (Names (codes "a" ∷ []))
    ∷ answered (Dup 0) (Opened 2 1 kind.Dir)
    ∷ answered (NameBelow 0 2) (Names [])
    ∷ answered (Open 1 (codes "b")) (Opened 3 3 kind.Dir)
    ∷ answered (Close 3) Done
    ∷ answered (Rename 1 (codes "b") 2 (codes "d") Plain) Done
    ∷ answered (Close 2) Done
    ∷ answered (Close 1) Done
    ∷ []

abbrev pub rename_call : CallInHistory
rename_call = record {
  opening = base_opened CALLER (ROOT ∷ []);
  before = [];
  window = events_of CALLER rename_lines;
  below = (below_c base_nodes).below;
  root = ROOT;
  room = true;
  op = ops.Rename (codes "a/b/") (codes "d") Plain;
  lines = rename_lines;
}

-- It is a call in a legal history in which nobody else acts, it replies that it is done, and so it comes to what is
-- meant: node 3 stands in /c at `d` afterwards, and all else is as it was.
pub record RenameIsWorked : Type 0 where
  pub called : IsCallInHistory rename_call
  pub replies : RepliesWith rename_call done
  pub is_quiet : IsQuiet rename_call
  pub closes : ClosesWhatIsOpen rename_call
  pub comes : ComesTo (caller_of rename_call) (end_of rename_call) true rename_lines
      (op_means (caller_of rename_call) rename_call.op) done
  pub means : op_means (caller_of rename_call) rename_call.op
      ≡ record { reply = is_done; nodes = put_at base_nodes 3 (Some (place 1 (codes "d"))) }
  pub nodes : (end_of rename_call).nodes ≡ put_at base_nodes 3 (Some (place 1 (codes "d")))
