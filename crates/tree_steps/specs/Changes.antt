-- What became of the nodes where a change was wanted: it was made, or it is refused as it should be and the nodes
-- are as they were.
use Rattle.std.specs.Prelude.{◌≡◌, ◌<◌, ℕ, List, true, false, length, IsOk, None, Result, Ok, Err, MatchResult}
use Rattle.path_text.specs.declared.errno.Errno.{Errno}
use Rattle.path_text.specs.declared.errno.NoMemory.{NoMemory}
use Rattle.tree_model.specs.declared.answer.Answer.{Answer}
use Rattle.tree_model.specs.declared.answer.Answer.TheVariants.{Done, Refused}
use Rattle.tree_model.specs.declared.inode.Inode.{Inode}
use Rattle.tree_model.specs.declared.tree.TheConstants.{NUMBERS_MAX}
use Rattle.tree_model.specs.State.{State, child, is_dir, is_gone}
use Rattle.tree_model.specs.Steps.{Outcome}

-- a change that takes no memory
abbrev pub IsChange : List Inode → List Inode → Result (List Inode) Errno → Result (Unit {0}) Errno → Type 0
IsChange old new wanted result =
    MatchResult result (λ _. wanted ≡ Ok new) (λ error. (wanted ≡ Err error) × (new ≡ old))

-- a change that takes memory, but none to be refused
abbrev pub IsGrowth : List Inode → List Inode → Result (List Inode) Errno
    → Result (Result (Unit {0}) Errno) NoMemory → Type 0
IsGrowth old new wanted result =
    MatchResult result (λ change. IsChange old new wanted change) (λ _. IsOk wanted × (new ≡ old))

-- a new entry of that name can be made in a directory
pub record CanMake (nodes : List Inode) (d : ℕ) (n : List ℕ) : Type 0 where
  pub dir : is_dir nodes d ≡ true
  pub stays : is_gone nodes d ≡ false
  pub free : child nodes d n ≡ None
  pub few : length nodes < NUMBERS_MAX

-- ---- steps

-- a step that takes no memory was answered by the table, and left the tree that the table says
abbrev pub IsStep : Outcome → State → Answer → Type 0
IsStep outcome new answer = (answer ≡ outcome.answer) × (new ≡ outcome.after)

-- the same where the step may take memory: without it the tree is as it was
abbrev pub IsStepOr : State → Outcome → State → Result Answer NoMemory → Type 0
IsStepOr old outcome new result = MatchResult result (λ answer. IsStep outcome new answer) (λ _. new ≡ old)

-- the answer to a change of the entries
abbrev pub answer_of : Result (Unit {0}) Errno → Answer
answer_of (Ok _) = Done
answer_of (Err error) = Refused error
