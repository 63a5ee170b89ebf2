-- Outcomes whose nodes got other numbers, but for the nodes of the opening tree.
use Rattle.std.specs.Prelude.{◌≡◌, ◌<◌, ℕ, List, [], ◌∷◌, slice_get}
use Rattle.std.specs.Option.{option_map}
use Rattle.race_core.specs.declared.report.Outcome.{Outcome}
use Rattle.race_core.specs.declared.report.Outcome.TheVariants as outcomes
use Rattle.tree_model.specs.declared.answer.Answer.{Answer}
use Rattle.tree_model.specs.declared.answer.Answer.TheVariants as answers
use Rattle.tree_model.specs.declared.inode.Inode.{Inode}
use Rattle.tree_model.specs.declared.inode.Place.{Place}

-- Each number becomes another one, and no two become the same; those below n, the nodes of the opening tree, stay.
pub record IsRenumbering (n : ℕ) (f : ℕ → ℕ) : Type 0 where
  pub back : ℕ → ℕ
  pub back_again : (x : ℕ) → back (f x) ≡ x
  pub there_again : (x : ℕ) → f (back x) ≡ x
  pub fixed : (x : ℕ) → x < n → f x ≡ x

-- ---- numbers of nodes replaced by others; everything else stays

abbrev pub answer_on : (ℕ → ℕ) → Answer → Answer
answer_on f (answers.Opened handle x kind) = answers.Opened handle (f x) kind
answer_on f (answers.Text text) = answers.Text text
answer_on f (answers.Names names) = answers.Names names
answer_on f answers.NotBelow = answers.NotBelow
answer_on f (answers.Listed names) = answers.Listed names
answer_on f answers.Done = answers.Done
answer_on f (answers.Refused error) = answers.Refused error

abbrev pub outcome_on : (ℕ → ℕ) → Outcome → Outcome
outcome_on f (outcomes.Opened x kind names) = outcomes.Opened (f x) kind names
outcome_on f (outcomes.Text text) = outcomes.Text text
outcome_on f outcomes.Done = outcomes.Done
outcome_on f (outcomes.Count n) = outcomes.Count n
outcome_on f (outcomes.Stepped answer) = outcomes.Stepped (answer_on f answer)
outcome_on f (outcomes.Fault error) = outcomes.Fault error

abbrev pub outcomes_on : (ℕ → ℕ) → List Outcome → List Outcome
outcomes_on f [] = []
outcomes_on f (outcome ∷ others) = outcome_on f outcome ∷ outcomes_on f others

abbrev pub replies_on : (ℕ → ℕ) → List (List Outcome) → List (List Outcome)
replies_on f [] = []
replies_on f (replies ∷ others) = outcomes_on f replies ∷ replies_on f others

abbrev pub place_on : (ℕ → ℕ) → Place → Place
place_on f place = record { parent = f place.parent; name = place.name }

-- the directory in which it stands
abbrev pub inode_on : (ℕ → ℕ) → Inode → Inode
inode_on f inode = record { object = inode.object; place = option_map (place_on f) inode.place }

-- ---- the whole

-- The nodes with other numbers: what had the number x has the number f x, and where there was no node there is none.
abbrev pub AreNodesOn : (ℕ → ℕ) → List Inode → List Inode → Type 0
AreNodesOn f nodes others = (x : ℕ) → slice_get others (f x) ≡ option_map (inode_on f) (slice_get nodes x)

-- Nodes and replies are what others were, by one renumbering of the nodes from n on.
pub record IsRenumbered (n : ℕ) (nodes : List Inode) (replies : List (List Outcome)) (others : List Inode)
    (renumbered : List (List Outcome)) : Type 0 where
  pub f : ℕ → ℕ
  pub renumbering : IsRenumbering n f
  pub nodes_on : AreNodesOn f nodes others
  pub replies_on : renumbered ≡ replies_on f replies

-- Nodes and replies are what others were, by these numbers.
pub record AreByNumbers (f : ℕ → ℕ) (nodes : List Inode) (replies : List (List Outcome)) (others : List Inode)
    (renumbered : List (List Outcome)) : Type 0 where
  pub nodes_on : AreNodesOn f nodes others
  pub replies_on : renumbered ≡ replies_on f replies
