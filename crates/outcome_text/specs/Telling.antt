-- What the text says of an outcome.
use Rattle.std.specs.Prelude.{◌≡◌, ℕ, List, Bool, length}
use Rattle.race_core.specs.declared.report.Outcome.{Outcome}
use Rattle.node_numbering.specs.Meeting.{numbers}
use Rattle.node_numbering.specs.Renumbered.{IsRenumbered, AreByNumbers}
use Rattle.tree_model.specs.declared.inode.Inode.{Inode}
use Rattle.tree_model.specs.State.{State}
use Rattle.outcome_text.specs.declared.survey.Told.{Told}
use Rattle.outcome_text.specs.Outcome.{outcome_lines, judged_lines}
use Rattle.outcome_text.specs.Schedule.{schedule_words}
use Rattle.outcome_text.specs.Survey.{block_of}

-- It is what is printed of these replies and this tree by other numbers of the nodes that the opening tree doesn't
-- have: those by the order in which they are met.
pub record IsLook (named : List ℕ) (opening : State) (actors : ℕ) (replies : List (List Outcome)) (tree : State)
    (outside look : List ℕ) : Type 0 where
  pub nodes : List Inode
  pub renumbered : List (List Outcome)
  pub by_numbers : IsRenumbered (length opening.nodes) tree.nodes replies nodes renumbered
  pub as_met :
      AreByNumbers (numbers (length opening.nodes) named tree.nodes replies) tree.nodes replies nodes renumbered
  pub is : look ≡ outcome_lines named opening renumbered
      (record { nodes = nodes; handles = tree.handles }) outside actors

-- So many lists lead to it, the least has so many cuts and changes of actor and these turns, and comes to these replies
-- and this tree, with so many steps of each actor outside. The lines are kept only where it is judged.
pub record IsToldOf (judged : Bool) (named : List ℕ) (opening : State) (actors lists cuts changes : ℕ) (turns : List ℕ)
    (replies : List (List Outcome)) (tree : State)
    (outside : List ℕ) (told : Told) : Type 0 where
  pub counted : told.lists ≡ lists
  pub cut : told.cuts ≡ cuts
  pub changed : told.changes ≡ changes
  pub least : told.turns.items ≡ turns
  pub scheduled : told.schedule ≡ schedule_words turns
  pub printed : block_of told ≡ outcome_lines named opening replies tree outside actors
  pub looks : IsLook named opening actors replies tree outside told.look
  pub judged_by : told.lines ≡ judged_lines judged replies tree outside actors
